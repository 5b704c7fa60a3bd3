-- Texts that were added at the end of what a sink took, one after the other.
use Rattle.std.proofs.Common.{◌≡◌, ℕ, ◌+◌, ◌-◌, ◌≤◌, ◌++◌, List, Option, None, Some, length, take, drop, refl, sym, subst, ap, ◌∙◌, arith, take-add, append_assoc, length-append, length-drop, append-nil, []}
use Rattle.std.specs.Option.{option_map}
use Rattle.std.proofs.lemmas.List.{take_all, take-append-le}
use Rattle.std.proofs.Math.Seq.{take-append-add}
use Rattle.shelf_io.specs.Texts.{Grew, GrewWithin}

-- two texts after one another are the joined text
pub grew_twice : (before mid now : Option (List ℕ)) (xs ys : List ℕ) → Grew before mid xs → Grew mid now ys → Grew before now (xs ++ ys)
grew_twice None mid now xs ys first second = second ∙ ap (option_map (λ bytes. bytes ++ ys)) first
grew_twice (Some b) mid now xs ys first second = second ∙ ap (option_map (λ bytes. bytes ++ ys)) first ∙ ap Some (append_assoc b xs ys)

-- a front of a text and the next bytes of it are a longer front
pub grew_more : (before mid now : Option (List ℕ)) (text : List ℕ) (done n : ℕ) → Grew before mid (take done text)
    → Grew mid now (take n (take (length text - done) (drop done text))) → Grew before now (take (done + n) text)
grew_more before mid now text done n first second =
    let rest : take (length text - done) (drop done text) ≡ drop done text =
    let long : length (drop done text) ≡ length text - done = length-drop done text in take_all (length text - done) (drop done text) (omega (arith, long)) in
    subst (Grew before now) (sym (take-add done n text))
    (grew_twice before mid now (take done text) (take n (drop done text)) first (subst (λ xs. Grew mid now (take n xs)) rest second))

-- a front of a text and then nothing more
pub grew_within : (before mid now : Option (List ℕ)) (text : List ℕ) (done : ℕ) → done ≤ length text → Grew before mid (take done text) → now ≡ mid → GrewWithin before now text
grew_within before mid now text done inside first kept = (done, inside, kept ∙ first)

-- nothing was added
pub grew_none : (before : Option (List ℕ)) → Grew before before []
grew_none None = refl
grew_none (Some b) = ap Some (sym (append-nil b))

-- a whole text is a front of it
pub within_of_grew : (before now : Option (List ℕ)) (text : List ℕ) → Grew before now text → GrewWithin before now text
within_of_grew before now text grew =
    (length text, omega arith, subst (Grew before now) (sym (take_all (length text) text (omega arith))) grew)

-- nothing at all is a front of any text
pub within_none : (before now : Option (List ℕ)) (text : List ℕ) → now ≡ before → GrewWithin before now text
within_none before now text kept = (0, omega arith, kept ∙ grew_none before)

-- a text, and then a front of a second one, are a front of the joined text
pub grew_then_within : (before mid now : Option (List ℕ)) (xs ys : List ℕ) → Grew before mid xs → GrewWithin mid now ys → GrewWithin before now (xs ++ ys)
grew_then_within before mid now xs ys first second =
    let long = length-append xs ys in (
      length xs + second.0,
      omega (arith, long, second.1),
      subst (Grew before now) (sym (take-append-add xs ys second.0)) (grew_twice before mid now xs (take second.0 ys) first second.2),
    )

-- a front of a text is one of each longer text
pub within_of_longer : (before now : Option (List ℕ)) (xs ys : List ℕ) → GrewWithin before now xs → GrewWithin before now (xs ++ ys)
within_of_longer before now xs ys part =
    let long = length-append xs ys in
    (part.0, omega (arith, long, part.1), subst (Grew before now) (sym (take-append-le part.0 xs ys part.1)) part.2)
