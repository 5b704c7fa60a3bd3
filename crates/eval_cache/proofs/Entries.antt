-- What a look-up and an offer make of the entries: the words of the specs beside those of `lru`, and which entries there are then.
use Rattle.std.proofs.Common.{◌≡◌, ◌⊎◌, ℕ, ◌-◌, Bool, true, false, nat_eq, Option, Some, None, IfSome, Result, Ok, Err, OnOk, OnErr, List, [], ◌∷◌, take, Contains, refl, sym, ap, subst, ◌∙◌, inl, inr, arith}
use Rattle.std.specs.Bool.{OnTrue}
use Rattle.std.specs.Result.{is_ok}
use Rattle.std.specs.Option.{option_map_or}
use Rattle.std.specs.Map.{lookup_entry, remove_entry}
use Rattle.lru.proofs.CallerLemmas.{Contains-lookup, Contains-take, Contains-remove_entry}
use Rattle.lru.proofs.Splits.{Contains-cons}
use Rattle.lru.specs.LruCache.{LruCache, lru_cache, promoted, put_entries}
use Rattle.definitions.specs.declared.Side.{Side}
use Rattle.definitions.specs.Evaluation.{Share, Node}
use Rattle.prefix_bits.specs.Bits.{bits_eq}
use Rattle.prefix_bits.specs.Orders.{bits_decide}
use Rattle.eval_cache.specs.declared.key.Key.{Key}
use Rattle.kept_nodes.specs.Kept.{node_at}
use Rattle.eval_cache.specs.Entries.{CacheSeen, AreNodes, is_key, found_in, entry_of, with_first, used, kept}

abbrev key_of : ℕ → List Bool → Key
key_of report prefix = record { report = report; prefix = prefix }

module _ (report : ℕ) (prefix : List Bool) where
  -- a key that passes is that key
  pub same_key : (k : Key) → is_key report prefix k ≡ true → k ≡ key_of report prefix
  same_key k h =
      let both : (nat_eq report k.report ≡ true) × (bits_eq prefix k.prefix ≡ true) = grind arith in
      let number : report ≡ k.report = grind (arith, both.0) in
      let bits : prefix ≡ k.prefix = (bits_decide prefix k.prefix).0 both.1 in
      λ i. key_of (sym number i) (sym bits i)

  -- both look-ups find nothing, or the same entry, whose key is that one
  abbrev IsLookedUp : Option (Key × Node) → Option Node → Type 0
  IsLookedUp o p = ((o ≡ None) × (p ≡ None)) ⊎ ((found : Node) × (o ≡ Some (entry_of report prefix found)) × (p ≡ Some found))

  looked_up : (es : List (Key × Node)) → IsLookedUp (lookup_entry (is_key report prefix) es) (found_in report prefix es)
  looked_up [] = inl (refl, refl)
  looked_up (e ∷ es) = (elim (is_key report prefix e.0) as (λ y. is_key report prefix e.0 ≡ y → IsLookedUp (lookup_entry (is_key report prefix) (e ∷ es)) (found_in report prefix (e ∷ es))) [
    | true ↦ λ t. rw t (inr (e.1, ap (λ (k : Key). Some (k, e.1)) (same_key e.0 t), refl))
    | false ↦ λ t. rw t (looked_up es)
  ]) refl

  pub used_is : (es : List (Key × Node)) → promoted (is_key report prefix) es ≡ option_map_or (λ found. with_first report prefix found es) (found_in report prefix es) es
  used_is es = elim (looked_up es) [
    | inl none ↦ ap (λ o. option_map_or (λ e. e ∷ remove_entry (is_key report prefix) es) o es) none.0 ∙ sym (ap (λ o. option_map_or (λ found. with_first report prefix found es) o es) none.1)
    | inr one ↦ ap (λ o. option_map_or (λ e. e ∷ remove_entry (is_key report prefix) es) o es) one.1 ∙ sym (ap (λ o. option_map_or (λ found. with_first report prefix found es) o es) one.2)
  ]

  pub kept_is : (es : List (Key × Node)) (most : ℕ) (found : Node)
      → put_entries (λ (x y : Key). is_key x.report x.prefix y) (lru_cache es most) (key_of report prefix) found
      ≡ option_map_or (λ _. with_first report prefix found es) (found_in report prefix es) (entry_of report prefix found ∷ take (most - 1) es)
  kept_is es most found =
      let put : Option (Key × Node) → List (Key × Node) =
      λ o. option_map_or (λ e. (e.0, found) ∷ remove_entry (is_key report prefix) es) o (entry_of report prefix found ∷ take (most - 1) es) in
      let keep : Option Node → List (Key × Node) = λ o. option_map_or (λ _. with_first report prefix found es) o (entry_of report prefix found ∷ take (most - 1) es) in
      elim (looked_up es) [
        | inl none ↦ ap put none.0 ∙ sym (ap keep none.1)
        | inr one ↦ ap put one.1 ∙ sym (ap keep one.2)
      ]

  -- what the cache is after a look-up
  pub used_view : (old now : CacheSeen) → old ≡ now → record old { entries = promoted (is_key report prefix) old.entries } ≡ used report prefix now
  used_view old now is = ap (λ es. record old { entries = es }) (used_is old.entries) ∙ ap (used report prefix) is

  -- what it is after an offer that was taken
  pub kept_view : {E : Type 0} (old now : CacheSeen) (new : LruCache Key Node) (found : Node) (r : Result (Option Node) E) (done : Bool) → old ≡ now → done ≡ is_ok r
      → OnOk r (new ≡ lru_cache (put_entries (λ (x y : Key). is_key x.report x.prefix y) (lru_cache old.entries old.most) (key_of report prefix) found) old.most)
      → OnTrue done (record { shares = old.shares; side = old.side; entries = new.entries; most = new.cap } ≡ kept report prefix found now)
  kept_view old now new found (Err x) done is value ok = rw value tt
  kept_view old now new found (Ok x) done is value ok =
      rw value (ap (λ (l : LruCache Key Node). record { shares = old.shares; side = old.side; entries = l.entries; most = l.cap }) ok
      ∙ ap (λ es. record old { entries = es }) (kept_is old.entries old.most found) ∙ ap (kept report prefix found) is)

  -- after a look-up each entry is one of before
  pub in_used : (c : CacheSeen) (e : Key × Node) → Contains (used report prefix c).entries e → Contains c.entries e
  in_used c e h = in_front (found_in report prefix c.entries) refl h
    where
      in_front : (o : Option Node) → found_in report prefix c.entries ≡ o → Contains (option_map_or (λ found. with_first report prefix found c.entries) o c.entries) e → Contains c.entries e
      in_front None is h = h
      in_front (Some found) is h = elim (Contains-cons (entry_of report prefix found) (remove_entry (is_key report prefix) c.entries) e h) [
        | inl same ↦
            let at = Contains-lookup (is_key report prefix) c.entries found is in
            subst (Contains c.entries) (ap (λ (k : Key). (k, found)) (same_key at.0 at.2) ∙ same) at.1
        | inr rest ↦ Contains-remove_entry (is_key report prefix) c.entries e rest
      ]

  -- after an offer each entry is that one or one of before
  pub in_kept : (c : CacheSeen) (found : Node) (e : Key × Node) → Contains (kept report prefix found c).entries e → (e ≡ entry_of report prefix found) ⊎ Contains c.entries e
  in_kept c found e h = in_front (found_in report prefix c.entries) h
    where
      in_front : (o : Option Node) → Contains (option_map_or (λ _. with_first report prefix found c.entries) o (entry_of report prefix found ∷ take (c.most - 1) c.entries)) e
          → (e ≡ entry_of report prefix found) ⊎ Contains c.entries e
      in_front None h = elim (Contains-cons (entry_of report prefix found) (take (c.most - 1) c.entries) e h) [
        | inl same ↦ inl (sym same)
        | inr rest ↦ inr (Contains-take (c.most - 1) c.entries e rest)
      ]
      in_front (Some old) h = elim (Contains-cons (entry_of report prefix found) (remove_entry (is_key report prefix) c.entries) e h) [
        | inl same ↦ inl (sym same)
        | inr rest ↦ inr (Contains-remove_entry (is_key report prefix) c.entries e rest)
      ]

module _ (shares : List Share) (side : Side) (report : ℕ) (prefix : List Bool) where
  -- what is found is the evaluated node
  pub found_node : (es : List (Key × Node)) → AreNodes shares side es → (o : Option Node) → o ≡ found_in report prefix es → IfSome o (λ n. n ≡ node_at shares side report prefix)
  found_node es all None is = tt
  found_node es all (Some n) is =
      let at = Contains-lookup (is_key report prefix) es n (sym is) in
      all (at.0, n) at.1 ∙ ap (λ (k : Key). node_at shares side k.report k.prefix) (same_key report prefix at.0 at.2)

  -- after an offer, taken or not, each entry's node is the evaluated one
  pub kept_nodes : {E : Type 0} (old new : LruCache Key Node) (found : Node) (r : Result (Option Node) E) → AreNodes shares side old.entries → found ≡ node_at shares side report prefix
      → OnOk r (new ≡ lru_cache (put_entries (λ (x y : Key). is_key x.report x.prefix y) old (key_of report prefix) found) old.cap) → OnErr r (new ≡ old)
      → AreNodes shares side new.entries
  kept_nodes old new found (Err x) all is ok err = rw err all
  kept_nodes old new found (Ok x) all is ok err = λ e h.
      let here = subst (λ es. Contains es e) (kept_is report prefix old.entries old.cap found) (rw ok at h) in
      elim (in_kept report prefix (record { shares = shares; side = side; entries = old.entries; most = old.cap }) found e here) [
        | inl same ↦ ap (λ (x : Key × Node). x.1) same ∙ is ∙ ap (λ (x : Key × Node). node_at shares side x.0.report x.0.prefix) (sym same)
        | inr was ↦ all e was
      ]
