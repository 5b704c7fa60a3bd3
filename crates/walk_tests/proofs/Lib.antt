mod Tiles
