-- Lists of names with bytes, as maps.
use Rattle.std.proofs.Common.{◌≡◌, ℕ, zero, suc, ◌++◌, List, [], ◌∷◌, Bool, true, false, cond, None, Some, length, get_or, refl, sym, subst, ap, ap₂, ◌∙◌, arith}
use Rattle.std.specs.Ordering.{nat_cmp}
use Rattle.std.proofs.lemmas.List.{map-append}
use Rattle.std.specs.Prelude.{slice_set, ◌<◌}
use Rattle.std.specs.Cmp.Lexicographic.{slice_cmp, nat_list_cmp_total}
use Rattle.std.specs.FinMap.{find, get, insert, from_entries, get-from_entries, get-insert, from_entries_push}
use Rattle.std.specs.String.{string_bytes}
use Rattle.std.specs.Option.{unwrap_or}
use Rattle.shelf_io.specs.Files.{with_more}
use Rattle.shelf_io.specs.Entries.{pair_of, pairs_of, files_of, IsPlace}
use Rattle.shelf_io.specs.declared.entries.Entry.{Entry}
use Rattle.shelf_io.proofs.FileLaws.{one_name, same_files, name_decides, same, decided_false, shadowed}

-- what is under a name is what the first entry of that name has
pub get_files : (entries : List Entry) (name : List ℕ) → get (files_of entries) name ≡ find (slice_cmp nat_cmp) name (pairs_of entries)
get_files entries name = get-from_entries nat_list_cmp_total (pairs_of entries) name

swapped : {X : Type 0} (a b : Bool) (x y z : X) → (a ≡ true → b ≡ true → ⊥) → cond a x (cond b y z) ≡ cond b y (cond a x z)
swapped true true x y z never = absurd (never refl refl)
swapped true false x y z never = refl
swapped false true x y z never = refl
swapped false false x y z never = refl

find_set : (es : List Entry) (k : List ℕ) (i : ℕ) (f : Entry) (q : List ℕ) → IsPlace es k i → string_bytes f.name ≡ k
    → find (slice_cmp nat_cmp) q (pairs_of (slice_set es i f)) ≡ cond (same q k) (Some f.bytes.items) (find (slice_cmp nat_cmp) q (pairs_of es))
find_set [] k i f q h e = absurd h
find_set (x ∷ xs) k zero f q h e =
    ap (λ n. cond (same q n) (Some f.bytes.items) (find (slice_cmp nat_cmp) q (pairs_of xs))) e
    ∙ shadowed (same q k) (Some f.bytes.items) (Some x.bytes.items) (find (slice_cmp nat_cmp) q (pairs_of xs))
    ∙ ap (λ n. cond (same q k) (Some f.bytes.items) (cond (same q n) (Some x.bytes.items) (find (slice_cmp nat_cmp) q (pairs_of xs)))) (sym h)
find_set (x ∷ xs) k (suc i) f q h e =
    ap (cond (same q (string_bytes x.name)) (Some x.bytes.items)) (find_set xs k i f q h.1 e)
    ∙ swapped (same q (string_bytes x.name)) (same q k) (Some x.bytes.items) (Some f.bytes.items) (find (slice_cmp nat_cmp) q (pairs_of xs))
    (λ a b. h.0 (sym ((name_decides q (string_bytes x.name)).0 a) ∙ (name_decides q k).0 b))

-- another entry of the name at its place: the name has its bytes
pub set_place : (es : List Entry) (k : List ℕ) (i : ℕ) (f : Entry) → IsPlace es k i → string_bytes f.name ≡ k
    → files_of (slice_set es i f) ≡ insert (files_of es) k f.bytes.items
set_place es k i f h e = same_files _ _ (λ q. get_files (slice_set es i f) q ∙ find_set es k i f q h e
    ∙ sym (get-insert nat_list_cmp_total (files_of es) k f.bytes.items q ∙ ap (cond (same q k) (Some f.bytes.items)) (get_files es q)))

-- an entry at the end, of a name that was not there
pub push_place : (es : List Entry) (k : List ℕ) (f : Entry) → get (files_of es) k ≡ None → string_bytes f.name ≡ k
    → files_of (es ++ f ∷ []) ≡ insert (files_of es) k f.bytes.items
push_place es k f none e =
    ap from_entries (map-append pair_of es (f ∷ []) ∙ ap (λ n. pairs_of es ++ (n, f.bytes.items) ∷ []) e)
    ∙ from_entries_push nat_list_cmp_total one_name (pairs_of es) k f.bytes.items (sym (get_files es k) ∙ none)

pub inside_place : (es : List Entry) (k : List ℕ) (i : ℕ) → IsPlace es k i → i < length es
inside_place [] k i h = absurd h
inside_place (x ∷ xs) k zero h = omega arith
inside_place (x ∷ xs) k (suc i) h = let r = inside_place xs k i h.1 in omega arith

-- the entry at a name's place has that name, and its bytes are those under the name
pub name_place : (es : List Entry) (k : List ℕ) (i : ℕ) (f : Entry) → IsPlace es k i → f ≡ get_or es i f → string_bytes f.name ≡ k
name_place [] k i f h e = absurd h
name_place (x ∷ xs) k zero f h e = ap (λ (y : Entry). string_bytes y.name) e ∙ h
name_place (x ∷ xs) k (suc i) f h e = name_place xs k i f h.1 e

find_place : (es : List Entry) (k : List ℕ) (i : ℕ) (f : Entry) → IsPlace es k i → f ≡ get_or es i f
    → find (slice_cmp nat_cmp) k (pairs_of es) ≡ Some f.bytes.items
find_place [] k i f h e = absurd h
find_place (x ∷ xs) k zero f h e =
    ap (λ b. cond b (Some x.bytes.items) (find (slice_cmp nat_cmp) k (pairs_of xs))) ((name_decides k (string_bytes x.name)).1 (sym h))
    ∙ ap (λ (y : Entry). Some y.bytes.items) (sym e)
find_place (x ∷ xs) k (suc i) f h e =
    ap (λ b. cond b (Some x.bytes.items) (find (slice_cmp nat_cmp) k (pairs_of xs))) (decided_false _ (name_decides k (string_bytes x.name)) (λ p. h.0 (sym p)))
    ∙ find_place xs k i f h.1 e

pub get_place : (es : List Entry) (k : List ℕ) (i : ℕ) (f : Entry) → IsPlace es k i → f ≡ get_or es i f → get (files_of es) k ≡ Some f.bytes.items
get_place es k i f h e = get_files es k ∙ find_place es k i f h e

-- what stands behind an entry of another name
pub skip_entry : (es xs : List Entry) (x : Entry) (k : List ℕ) → es ≡ x ∷ xs → (string_bytes x.name ≡ k → ⊥) → get (files_of xs) k ≡ get (files_of es) k
skip_entry es xs x k e never = get_files xs k
    ∙ sym (get_files es k ∙ ap (λ (ys : List Entry). find (slice_cmp nat_cmp) k (pairs_of ys)) e
    ∙ ap (λ b. cond b (Some x.bytes.items) (find (slice_cmp nat_cmp) k (pairs_of xs))) (decided_false _ (name_decides k (string_bytes x.name)) (λ p. never (sym p))))

-- places of a list of a first entry and the rest
pub first_entry : (es xs : List Entry) (x : Entry) (k : List ℕ) → es ≡ x ∷ xs → string_bytes x.name ≡ k → IsPlace es k 0
first_entry es xs x k e h = subst (λ (ys : List Entry). IsPlace ys k 0) (sym e) h

pub later_entry : (es xs : List Entry) (x : Entry) (k : List ℕ) (j : ℕ) → es ≡ x ∷ xs → (string_bytes x.name ≡ k → ⊥) → IsPlace xs k j → IsPlace es k (suc j)
later_entry es xs x k j e never h = subst (λ (ys : List Entry). IsPlace ys k (suc j)) (sym e) (never, h)

-- the entry at a name's place with more bytes at its end
pub set_more : (es : List Entry) (k : List ℕ) (i : ℕ) (f g : Entry) (bytes : List ℕ) → IsPlace es k i → f ≡ get_or es i f
    → string_bytes g.name ≡ string_bytes f.name → g.bytes.items ≡ f.bytes.items ++ bytes
    → files_of (slice_set es i g) ≡ with_more k bytes (files_of es)
set_more es k i f g bytes place is name more =
    set_place es k i g place (name ∙ name_place es k i f place is)
    ∙ ap (insert (files_of es) k) (more ∙ ap (λ o. unwrap_or o [] ++ bytes) (sym (get_place es k i f place is)))

-- the same entry again, as after a refusal
set_same : (es : List Entry) (k : List ℕ) (i : ℕ) (f g : Entry) → IsPlace es k i → f ≡ get_or es i f
    → string_bytes g.name ≡ string_bytes f.name → g.bytes.items ≡ f.bytes.items
    → (q : List ℕ) → find (slice_cmp nat_cmp) q (pairs_of (slice_set es i g)) ≡ find (slice_cmp nat_cmp) q (pairs_of es)
set_same [] k i f g h e n s q = absurd h
set_same (x ∷ xs) k zero f g h e n s q =
    ap₂ (λ name bytes. cond (same q name) (Some bytes) (find (slice_cmp nat_cmp) q (pairs_of xs))) n s
    ∙ ap (λ (y : Entry). cond (same q (string_bytes y.name)) (Some y.bytes.items) (find (slice_cmp nat_cmp) q (pairs_of xs))) e
set_same (x ∷ xs) k (suc i) f g h e n s q = ap (cond (same q (string_bytes x.name)) (Some x.bytes.items)) (set_same xs k i f g h.1 e n s q)

pub set_kept : (es : List Entry) (k : List ℕ) (i : ℕ) (f g : Entry) → IsPlace es k i → f ≡ get_or es i f
    → string_bytes g.name ≡ string_bytes f.name → g.bytes.items ≡ f.bytes.items
    → files_of (slice_set es i g) ≡ files_of es
set_kept es k i f g place is n s = same_files _ _ (λ q. get_files _ q ∙ set_same es k i f g place is n s q ∙ sym (get_files es q))
