-- The shares of a history are those of its passes' own entries.
use Rattle.std.proofs.Common.{◌≡◌, inl, inr, ◌<◌, Bool, cond, ◌==◌, List, [], ◌∷◌, length, sym, ap, subst, arith}
use Rattle.std.specs.Prelude.{filter, flat_map}
use Rattle.std.specs.List.{range_with_len}
use Rattle.std.proofs.lemmas.Bool.{eqb-true, eq-eqb, lt-ltb}
use Rattle.definitions.specs.Evaluation.{Share}
use Rattle.core_definitions.specs.System.{Entry}
use Rattle.walk_definitions.specs.Laws.{IsAmong, SameShares}
use Rattle.turn_lock.specs.Places.{once_below}
use Rattle.report_intake.specs.Seen.{UploadPassSeen}
use Rattle.report_intake.specs.History.{shares_of, numbered, own_under, own_shares, IsHistory}
use Rattle.report_intake.proofs.Lists.{Has, has-map, map-has, has-flat, flat-has, has-filter, filter-has, counted, of_each, has-below}

among-has : (s : Share) (ts : List Share) → IsAmong s ts → Has s ts
among-has s [] m = absurd m
among-has s (t ∷ ts) (inl e) = inl e
among-has s (t ∷ ts) (inr m) = inr (among-has s ts m)

has-among : (s : Share) (ts : List Share) → Has s ts → IsAmong s ts
has-among s [] m = absurd m
has-among s (t ∷ ts) (inl e) = inl e
has-among s (t ∷ ts) (inr m) = inr (has-among s ts m)

-- lists with the same entries have the same shares
same_entries : (es fs : List Entry) → ((e : Entry) → Has e es → Has e fs) → (s : Share) → IsAmong s (shares_of es) → IsAmong s (shares_of fs)
same_entries es fs over s m =
    let e = map-has (λ (x : Entry). x.share) s es (among-has s (shares_of es) m) in
    has-among s (shares_of fs) (subst (λ (t : Share). Has t (shares_of fs)) e.2 (has-map (λ (x : Entry). x.share) e.0 fs (over e.0 e.1)))

module _ (passes : List UploadPassSeen) (log : List Entry) (history : IsHistory passes log) where
  -- an entry of a pass's own is one of the history
  own-log : (pass : UploadPassSeen) (e : Entry) → Has pass passes → Has e pass.own → Has e log
  own-log pass e there has =
      let own = of_each (λ (p : UploadPassSeen). p.own ≡ numbered p.number log) pass passes history.own there in
      (filter-has (λ (f : Entry). f.number == pass.number) e log (subst (Has e) own has)).0

  -- an entry of the history is the own one of a pass of its number, which is in the range
  log-own : (e : Entry) → Has e log → (pass : UploadPassSeen) × Has pass passes × (pass.number ≡ e.number) × Has e pass.own
  log-own e has =
      let few = of_each (λ (f : Entry). f.number < length passes) e log history.entries has in
      let once : once_below e.number (length passes) ≡ 1 = ap (λ (b : Bool). cond b 1 0) (lt-ltb e.number (length passes) few) in
      let one = counted (λ (p : UploadPassSeen). p.number == e.number) passes (omega (arith, history.numbers e.number, once)) in
      let same : one.0.number ≡ e.number = eqb-true one.0.number e.number one.2 in
      let own = of_each (λ (p : UploadPassSeen). p.own ≡ numbered p.number log) one.0 passes history.own one.1 in
      (one.0, one.1, same, subst (Has e) (sym own) (has-filter (λ (f : Entry). f.number == one.0.number) e log has (eq-eqb e.number one.0.number (sym same))))

  listed : (e : Entry) → Has e log → Has e (flat_map (λ (p : UploadPassSeen). p.own) passes)
  listed e has = let pass = log-own e has in has-flat (λ (p : UploadPassSeen). p.own) pass.0 e passes pass.1 pass.3

  unlisted : (e : Entry) → Has e (flat_map (λ (p : UploadPassSeen). p.own) passes) → Has e log
  unlisted e has = let pass = flat-has (λ (p : UploadPassSeen). p.own) e passes has in own-log pass.0 e pass.1 pass.2

  ordered : (e : Entry) → Has e log → Has e (flat_map (own_under passes) (range_with_len 0 (length passes)))
  ordered e has =
      let pass = log-own e has in
      let few = of_each (λ (f : Entry). f.number < length passes) e log history.entries has in
      let with = filter (λ (p : UploadPassSeen). p.number == e.number) passes in
      let there : Has pass.0 with = has-filter (λ (p : UploadPassSeen). p.number == e.number) pass.0 passes pass.1 (eq-eqb pass.0.number e.number pass.2) in
      has-flat (own_under passes) e.number e (range_with_len 0 (length passes)) (has-below (length passes) e.number few)
      (has-flat (λ (p : UploadPassSeen). p.own) pass.0 e with there pass.3)

  unordered : (e : Entry) → Has e (flat_map (own_under passes) (range_with_len 0 (length passes))) → Has e log
  unordered e has =
      let number = flat-has (own_under passes) e (range_with_len 0 (length passes)) has in
      let with = filter (λ (p : UploadPassSeen). p.number == number.0) passes in
      let pass = flat-has (λ (p : UploadPassSeen). p.own) e with number.2 in
      own-log pass.0 e (filter-has (λ (p : UploadPassSeen). p.number == number.0) pass.0 passes pass.1).0 pass.2

  pub own_law : SameShares (shares_of log) (own_shares passes) × SameShares (shares_of log) (shares_of (flat_map (λ (p : UploadPassSeen). p.own) passes))
  own_law =
      let wide = flat_map (own_under passes) (range_with_len 0 (length passes)) in
      let flat = flat_map (λ (p : UploadPassSeen). p.own) passes in
      ((same_entries log wide ordered, same_entries wide log unordered), (same_entries log flat listed, same_entries flat log unlisted))
