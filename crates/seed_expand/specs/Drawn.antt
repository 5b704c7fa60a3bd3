-- Words that a generator draws one after another.
use Rattle.std.specs.Prelude.{ℕ, ◌+◌, ◌*◌, ◌^◌, List, [], ◌∷◌}
use Rattle.rand_chacha.specs.ChaCha.{word_at}

-- eight words of a key, from a place on
unfoldable pub eight_at : List ℕ → ℕ → ℕ → List ℕ
eight_at key stream place =
    word_at 10 key stream place ∷ word_at 10 key stream (place + 1)
    ∷ word_at 10 key stream (place + 2) ∷ word_at 10 key stream (place + 3)
    ∷ word_at 10 key stream (place + 4) ∷ word_at 10 key stream (place + 5)
    ∷ word_at 10 key stream (place + 6) ∷ word_at 10 key stream (place + 7) ∷ []

-- the number of four words of a key from a place on, the first word the lowest
unfoldable pub four_at : List ℕ → ℕ → ℕ → ℕ
four_at key stream place =
    word_at 10 key stream place + word_at 10 key stream (place + 1) * 2 ^ 32
    + word_at 10 key stream (place + 2) * 2 ^ 64 + word_at 10 key stream (place + 3) * 2 ^ 96
