-- What one more read adds to those before it.
use Rattle.std.proofs.Common.{take-add, ◌≡◌, ℕ, ◌+◌, ◌-◌, ◌≤◌, ◌++◌, List, [], Option, None, Some, length, take, drop, sym, subst, ap, ◌∙◌, arith, append-nil, length-drop}
use Rattle.std.specs.Prelude.{IfSome}
use Rattle.std.specs.FinMap.{get}
use borrow.Rule.Slice.PartMut.{put_mid}
use Rattle.std.proofs.Math.Seq.{take-append-add, drop-drop}
use Rattle.std.proofs.lemmas.List.{length-take-le, take-append-le, take_all, drop_all}
use Rattle.std.proofs.Math.Seq.{drop-append-add}
use Rattle.shelf_io.specs.Files.{Files, IfThere}

-- what was read so far and what was read now are the file's bytes, from a place on, up to the new place
pub more_read : (at n k from : ℕ) (old part bytes : List ℕ) → take at old ≡ take at (drop from bytes) → at ≤ length old → n ≤ length part
    → take n part ≡ take n (drop (from + at) bytes) → take (at + n) (put_mid at k old part) ≡ take (at + n) (drop from bytes)
more_read at n k from old part bytes so_far inside few now =
    let front : length (take at old) ≡ at = length-take-le at old inside in
    let rest = part ++ drop k (drop at old) in
    subst (λ m. take (m + n) (take at old ++ rest) ≡ take (at + n) (drop from bytes)) front
    (take-append-add (take at old) rest n
    ∙ ap (λ xs. take at old ++ xs) (take-append-le n part (drop k (drop at old)) few ∙ now ∙ ap (take n) (sym (drop-drop at from bytes)))
    ∙ ap (λ xs. xs ++ take n (drop at (drop from bytes))) so_far
    ∙ sym (take-add at n (drop from bytes)))

-- what was read now left the slice behind it, as the reads before did
pub rest_read : (at n : ℕ) (old part first : List ℕ) → at ≤ length old → drop n part ≡ drop n (take (length old - at) (drop at old))
    → drop at old ≡ drop at first → drop (at + n) (put_mid at (length old - at) old part) ≡ drop (at + n) first
rest_read at n old part first inside left so_far =
    let front : length (take at old) ≡ at = length-take-le at old inside in
    let size : length (drop at old) ≡ length old - at = length-drop at old in
    let none : drop (length old - at) (drop at old) ≡ [] = drop_all (length old - at) (drop at old) (omega (arith, size)) in
    subst (λ m. drop (m + n) (take at old ++ (part ++ drop (length old - at) (drop at old))) ≡ drop (at + n) first) front
    (drop-append-add (take at old) (part ++ drop (length old - at) (drop at old)) n
    ∙ ap (λ xs. drop n (part ++ xs)) none ∙ ap (drop n) (append-nil part) ∙ left
    ∙ ap (drop n) (take_all (length old - at) (drop at old) (omega (arith, size)) ∙ so_far)
    ∙ drop-drop n at first)

reaches : (at n from size : ℕ) → at ≤ size - from → n ≤ size - (from + at) → at + n ≤ size - from
reaches at n from size p q = omega (arith, p, q)

some-both : {X : Type 0} {P Q R : X → Type 0} (o : Option X) → ((x : X) → P x → Q x → R x) → IfSome o P → IfSome o Q → IfSome o R
some-both None step p q = tt
some-both (Some x) step p q = step x p q

-- two facts of the bytes under a name give a third
pub there-both : {P Q R : List ℕ → Type 0} (told : Option Files) (name : List ℕ) → ((bytes : List ℕ) → P bytes → Q bytes → R bytes)
    → IfThere told name P → IfThere told name Q → IfThere told name R
there-both None name step p q = tt
there-both (Some held) name step p q = some-both (get held name) step p q

-- the bytes read so far, where a shelf tells them
pub more_there : (told mid : Option Files) (name : List ℕ) (at n k from : ℕ) (old part : List ℕ) → mid ≡ told → at ≤ length old → n ≤ length part
    → IfThere told name (λ bytes. (at ≤ length bytes - from) × (take at old ≡ take at (drop from bytes)))
    → IfThere mid name (λ bytes. (n ≤ length bytes - (from + at)) × (take n part ≡ take n (drop (from + at) bytes)))
    → IfThere told name (λ bytes. (at + n ≤ length bytes - from) × (take (at + n) (put_mid at k old part) ≡ take (at + n) (drop from bytes)))
more_there told mid name at n k from old part same inside few before now =
    there-both {P = λ bytes. (at ≤ length bytes - from) × (take at old ≡ take at (drop from bytes))}
    {Q = λ bytes. (n ≤ length bytes - (from + at)) × (take n part ≡ take n (drop (from + at) bytes))}
    {R = λ bytes. (at + n ≤ length bytes - from) × (take (at + n) (put_mid at k old part) ≡ take (at + n) (drop from bytes))}
    told name
    (λ bytes p q. (reaches at n from (length bytes) p.0 q.0, more_read at n k from old part bytes p.1 inside few q.1))
    before
    (subst (λ m. IfThere m name (λ bytes. (n ≤ length bytes - (from + at)) × (take n part ≡ take n (drop (from + at) bytes)))) same now)
