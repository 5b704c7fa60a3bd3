mod Nodes
mod Parts
