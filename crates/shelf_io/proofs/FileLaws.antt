-- Files as maps: what is under a name after a change, and changes one after the other.
use Rattle.std.proofs.Common.{◌≡◌, inr, ℕ, ◌++◌, List, [], Bool, true, false, cond, Option, None, Some, length, take, drop, take-add, arith, ◌+◌, refl, sym, subst, ap, ◌∙◌, append_assoc}
use Rattle.std.specs.Ordering.{nat_cmp, eq_by_cmp}
use Rattle.std.specs.Bool.{Decides}
use Rattle.std.proofs.lemmas.Map.Text.{is_eq-slice_cmp}
use Rattle.std.specs.Cmp.Lexicographic.{slice_cmp, nat_list_cmp_total, bytes_decides}
use Rattle.std.specs.FinMap.{get, insert, get-insert, same_map, IsAntisymmetric, slice_cmp-IsAntisymmetric, nat_cmp-IsAntisymmetric}
use Rattle.std.specs.Prelude.{IfSome, IsSome}
use Rattle.std.specs.Option.{option_map, unwrap_or}
use Rattle.std.proofs.lemmas.List.{take_all}
use Rattle.shelf_io.specs.Files.{Files, IsThere, HoldsFront, length_under, with_bytes, with_more}

pub one_name : IsAntisymmetric (slice_cmp nat_cmp)
one_name = slice_cmp-IsAntisymmetric nat_cmp-IsAntisymmetric

-- two maps with the same under every name are one
pub same_files : (m n : Files) → ((q : List ℕ) → get m q ≡ get n q) → m ≡ n
same_files m n h = same_map nat_list_cmp_total one_name m n h

pub name_decides : (q k : List ℕ) → Decides (eq_by_cmp (slice_cmp nat_cmp) q k) (q ≡ k)
name_decides q k = subst (λ b. Decides b (q ≡ k)) (sym (is_eq-slice_cmp q k)) (bytes_decides q k)

pub decided_false : {P : Type 0} (b : Bool) → Decides b P → (P → ⊥) → b ≡ false
decided_false true d never = absurd (never (d.0 refl))
decided_false false d never = refl

pub shadowed : {X : Type 0} (b : Bool) (x y z : X) → cond b x z ≡ cond b x (cond b y z)
shadowed true x y z = refl
shadowed false x y z = refl

abbrev pub same : List ℕ → List ℕ → Bool
same = eq_by_cmp (slice_cmp nat_cmp)

-- the name holds what was put under it
pub get_inserted : (held : Files) (k : List ℕ) (v : List ℕ) → get (insert held k v) k ≡ Some v
get_inserted held k v = get-insert nat_list_cmp_total held k v k ∙ ap (λ b. cond b (Some v) (get held k)) ((name_decides k k).1 refl)

-- another name holds what it held
pub get_inserted_other : (held : Files) (k q : List ℕ) (v : List ℕ) → (q ≡ k → ⊥) → get (insert held k v) q ≡ get held q
get_inserted_other held k q v other = get-insert nat_list_cmp_total held k v q
    ∙ ap (λ b. cond b (Some v) (get held q)) (decided_false _ (name_decides q k) other)

-- the later bytes of a name stay
pub inserted_again : (held : Files) (k : List ℕ) (v w : List ℕ) → insert (insert held k v) k w ≡ insert held k w
inserted_again held k v w = same_files _ _ (λ q. get-insert nat_list_cmp_total (insert held k v) k w q
    ∙ ap (cond (same q k) (Some w)) (get-insert nat_list_cmp_total held k v q)
    ∙ sym (shadowed (same q k) (Some w) (Some v) (get held q))
    ∙ sym (get-insert nat_list_cmp_total held k w q))

-- bytes at the end of none
pub more_of_begun : (held : Files) (k bytes : List ℕ) → with_more k bytes (with_bytes k [] held) ≡ with_bytes k bytes held
more_of_begun held k bytes =
    ap (λ o. insert (insert held k []) k (unwrap_or o [] ++ bytes)) (get_inserted held k []) ∙ inserted_again held k [] bytes

-- more at the end, twice
pub more_again : (held : Files) (k xs ys : List ℕ) → with_more k ys (with_more k xs held) ≡ with_more k (xs ++ ys) held
more_again held k xs ys =
    ap (λ o. insert (with_more k xs held) k (unwrap_or o [] ++ ys)) (get_inserted held k (unwrap_or (get held k) [] ++ xs))
    ∙ inserted_again held k (unwrap_or (get held k) [] ++ xs) ((unwrap_or (get held k) [] ++ xs) ++ ys)
    ∙ ap (insert held k) (append_assoc (unwrap_or (get held k) []) xs ys)

-- more behind what was written
pub more_of_written : (held : Files) (k xs ys : List ℕ) → with_more k ys (with_bytes k xs held) ≡ with_bytes k (xs ++ ys) held
more_of_written held k xs ys = ap (λ o. insert (insert held k xs) k (unwrap_or o [] ++ ys)) (get_inserted held k xs) ∙ inserted_again held k xs (xs ++ ys)

-- changes of two names in either order
swapped : {X : Type 0} (a b : Bool) (x y z : X) → (a ≡ true → b ≡ true → ⊥) → cond a x (cond b y z) ≡ cond b y (cond a x z)
swapped true true x y z never = absurd (never refl refl)
swapped true false x y z never = refl
swapped false true x y z never = refl
swapped false false x y z never = refl

pub inserted_apart : (held : Files) (k l v w : List ℕ) → (k ≡ l → ⊥) → insert (insert held k v) l w ≡ insert (insert held l w) k v
inserted_apart held k l v w other = same_files _ _ (λ q. get-insert nat_list_cmp_total (insert held k v) l w q
    ∙ ap (cond (same q l) (Some w)) (get-insert nat_list_cmp_total held k v q)
    ∙ swapped (same q l) (same q k) (Some w) (Some v) (get held q) (λ a b. other (sym ((name_decides q k).0 b) ∙ (name_decides q l).0 a))
    ∙ sym (get-insert nat_list_cmp_total (insert held l w) k v q ∙ ap (cond (same q k) (Some v)) (get-insert nat_list_cmp_total held l w q)))

-- what is under another name stays when bytes are put under a name or added to them
pub get_with_bytes_other : (held : Files) (name other bytes : List ℕ) → (other ≡ name → ⊥) → get (with_bytes name bytes held) other ≡ get held other
get_with_bytes_other held name other bytes apart = get_inserted_other held name other bytes apart

pub get_with_more_other : (held : Files) (name other bytes : List ℕ) → (other ≡ name → ⊥) → get (with_more name bytes held) other ≡ get held other
get_with_more_other held name other bytes apart = get_inserted_other held name other (unwrap_or (get held name) [] ++ bytes) apart

-- a name that was written is there
some_of : (o : Option (List ℕ)) (x : List ℕ) → o ≡ Some x → IsSome o
some_of o x e = subst IsSome (sym e) refl

pub written_is_there : (before now : Option Files) (name xs : List ℕ) → now ≡ option_map (with_bytes name xs) before → IsThere now name
written_is_there None now name xs e = subst (λ m. IsThere m name) (sym e) tt
written_is_there (Some held) now name xs e = subst (λ m. IsThere m name) (sym e) (some_of (get (with_bytes name xs held) name) xs (get_inserted held name xs))

-- bytes written up to a place, and the piece from there added: written up to the piece's end
pub written_more : (before mid now : Option Files) (name text part : List ℕ) (done n : ℕ) → mid ≡ option_map (with_bytes name (take done text)) before
    → part ≡ take n (drop done text) → now ≡ option_map (with_more name part) mid → now ≡ option_map (with_bytes name (take (done + n) text)) before
written_more None mid now name text part done n e p f = f ∙ ap (option_map (with_more name part)) e
written_more (Some held) mid now name text part done n e p f =
    f ∙ ap (option_map (with_more name part)) e ∙ ap Some (more_of_written held name (take done text) part)
    ∙ ap (λ xs. Some (with_bytes name (take done text ++ xs) held)) p ∙ ap (λ xs. Some (with_bytes name xs held)) (sym (take-add done n text))

-- a name whose length was told is there
some_long : (o : Option (List ℕ)) (n : ℕ) → Some n ≡ option_map length o → IsSome o
some_long None n e = absurd (cc)
some_long (Some bytes) n e = refl

pub long_is_there : (held : Files) (name : List ℕ) (n : ℕ) → Some n ≡ length_under held name → IsSome (get held name)
long_is_there held name n e = some_long (get held name) n e

-- the same, where the shelf tells
pub told_long_is_there : (told : Option Files) (name : List ℕ) (n : ℕ) → IfSome told (λ held. Some n ≡ length_under held name) → IsThere told name
told_long_is_there None name n e = tt
told_long_is_there (Some held) name n e = long_is_there held name n e

-- a whole text under a name is a front of it
pub whole_holds_front : (before now : Option Files) (name text : List ℕ) → now ≡ option_map (with_bytes name text) before → HoldsFront before now name text
whole_holds_front before now name text e = inr (length text, e ∙ ap (λ xs. option_map (with_bytes name xs) before) (sym (take_all (length text) text (omega arith))))
