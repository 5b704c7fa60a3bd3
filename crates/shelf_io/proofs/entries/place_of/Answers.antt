use Rattle.std.proofs.Common.{◌≡◌, ℕ, ◌+◌, List, ◌∷◌, None, drop, get_or, sym, ap, ◌∙◌, subst, arith, add-one, drop-cons, suc, Bool, false, ◌≤◌, length}
use Rattle.std.proofs.lemmas.List.{drop_all}
use Rattle.std.specs.String.{string_bytes}
use Rattle.std.specs.FinMap.{get, get-empty}
use Rattle.std.specs.Bool.{Decides}
use Rattle.std.specs.Ordering.{nat_cmp}
use Rattle.std.specs.Cmp.Lexicographic.{bytes_decides, slice_cmp}
use Rattle.shelf_io.specs.declared.entries.Entry.{Entry}
use Rattle.shelf_io.specs.Entries.{IsPlace, files_of}
use Rattle.shelf_io.proofs.EntrySteps.{skip_entry, first_entry, later_entry}
use Rattle.shelf_io.proofs.entries.place_of.Goals as goal

pub returns-then-eq-clause-found : goal.returns-then-eq-clause-found
returns-then-eq-clause-found c =
    let front = drop-cons c.args.files.now c.loop-i.i c.index-files-i.result c.loop-i-test.true in
    let name : string_bytes (get_or c.args.files.now c.loop-i.i c.index-files-i.result).name ≡ c.args.name.now =
    sym c.as_str.ensures.value ∙ (bytes_decides c.as_str.result.now c.args.name.now).0 (sym c.eq.ensures ∙ c.if-eq.true) in
    let place : IsPlace c.args.files.now c.args.name.now (c.loop-i.i + 0) = c.loop-i.invariant.place 0 (first_entry _ _ _ c.args.name.now front name) in
    let same : c.loop-i.i + 0 ≡ c.loop-i.i = omega arith in
    subst (λ i. IsPlace c.args.files.now c.args.name.now i) same place

differs : {x y : List ℕ} (b : Bool) → Decides b (x ≡ y) → b ≡ false → x ≡ y → ⊥
differs b d f e = let t = d.1 e in absurd (cc)

pub loop-i-preserved : goal.loop-i-preserved
loop-i-preserved c =
    let front : drop c.loop-i.i c.args.files.now ≡ get_or c.args.files.now c.loop-i.i c.index-files-i.result ∷ drop (c.loop-i.i + 1) c.args.files.now =
    rw add-one (drop-cons c.args.files.now c.loop-i.i c.index-files-i.result c.loop-i-test.true) in
    let other : string_bytes (get_or c.args.files.now c.loop-i.i c.index-files-i.result).name ≡ c.args.name.now → ⊥ =
    λ e. differs _ (bytes_decides c.as_str.result.now c.args.name.now) (sym c.eq.ensures ∙ c.if-eq.false) (c.as_str.ensures.value ∙ e) in
    record {
      place = λ j h.
          let place : IsPlace c.args.files.now c.args.name.now (c.loop-i.i + suc j) = c.loop-i.invariant.place (suc j) (later_entry _ _ _ c.args.name.now j front other h) in
          let same : c.loop-i.i + suc j ≡ c.loop-i.i + 1 + j = omega arith in
          subst (λ i. IsPlace c.args.files.now c.args.name.now i) same place;
      none = skip_entry _ _ _ c.args.name.now front other ∙ c.loop-i.invariant.none;
    }

nothing_left : (es : List Entry) (i : ℕ) (k : List ℕ) → length es ≤ i → get (files_of (drop i es)) k ≡ get (files_of es) k → get (files_of es) k ≡ None
nothing_left es i k past none =
    sym none ∙ ap (λ (xs : List Entry). get (files_of xs) k) (drop_all i es past) ∙ get-empty (slice_cmp nat_cmp) k

pub returns-clause-missing : goal.returns-clause-missing
returns-clause-missing c = nothing_left c.args.files.now c.loop-i.i c.args.name.now (omega arith) c.loop-i.invariant.none
