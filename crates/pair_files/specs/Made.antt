-- The texts of the two files that hold the shares that are made of a list of strings.
use Rattle.std.specs.Prelude.{ℕ, Bool, List}
use Rattle.definitions.specs.declared.Side.TheVariants.{Zero, One}
use Rattle.share_format.specs.Laws.{file_of}
use Rattle.idpf_gen.specs.Made.{made_zero, made_one}

-- the files of the two sides, of strings whose lines are counted from 0: a header, and the record of each share in order
abbrev pub zero_text : ℕ → List ℕ → ℕ → List (List Bool) → List ℕ
zero_text width master tag strings = file_of Zero width (made_zero master tag 0 strings)

abbrev pub one_text : ℕ → List ℕ → ℕ → List (List Bool) → List ℕ
one_text width master tag strings = file_of One width (made_one master tag 0 strings)
