-- Nodes of one report, as the cache knows them and as the way down does.
use Rattle.std.proofs.Common.{◌≡◌, ℕ, ◌<◌, ◌≤◌, Bool, List, [], length, map, slice_index_or, Option, sym, ◌∙◌, ap, subst, arith}
use Rattle.std.specs.List.{All}
use Rattle.std.proofs.lemmas.List.{length-map, get_or-map}
use Rattle.definitions.specs.declared.Side.{Side}
use Rattle.definitions.specs.Evaluation.{Share, Node, node}
use Rattle.kept_nodes.specs.Kept.{share_at}
use Rattle.eval_cache.specs.Shards.{AreFound, AreFor}
use Rattle.idpf_lanes.specs.Stands.{AreFound as AreOwn}

module _ (shares : List Share) (share : Share) (kept side : Side) (report : ℕ) (own : share ≡ share_at shares report) (same : kept ≡ side) where
  -- what the cache found of a report is of its own share
  pub found_own : (prefixes : List (List Bool)) (found : List (Option Node)) → AreFound shares kept report prefixes found → AreOwn share side prefixes found
  found_own prefixes found h =
      subst (λ (s : Share). AreOwn s side prefixes found) (sym own) (subst (λ (x : Side). AreOwn (share_at shares report) x prefixes found) same h)

  -- so is what was kept beside it
  pub kept_own : (others : List Share) (other : Side) → others ≡ shares → other ≡ kept → (prefixes : List (List Bool)) (found : List (Option Node))
      → AreOwn (share_at others report) other prefixes found → AreOwn share side prefixes found
  kept_own others other is at prefixes found h =
      found_own prefixes found (subst (λ (ss : List Share). AreOwn (share_at ss report) kept prefixes found) is
      (subst (λ (x : Side). AreOwn (share_at others report) x prefixes found) at h))

  -- what the cache found is as if it was kept
  pub found_kept : (others : List Share) (other : Side) → others ≡ shares → other ≡ kept → (prefixes : List (List Bool)) (found : List (Option Node))
      → AreFound shares kept report prefixes found → AreOwn (share_at others report) other prefixes found
  found_kept others other is at prefixes found h =
      subst (λ (ss : List Share). AreOwn (share_at ss report) other prefixes found) (sym is)
      (subst (λ (x : Side). AreOwn (share_at shares report) x prefixes found) (sym at) h)

  -- the evaluated nodes of a report's candidates can be offered to the cache
  pub are_for : (level : ℕ) (prefixes : List (List Bool)) (nodes : List Node) → 0 < level → level ≤ length share.levels → All (λ q. length q ≡ level) prefixes
      → nodes ≡ map (node share side) prefixes → AreFor shares kept report prefixes nodes
  are_for level prefixes nodes some reach bits is = record {
    long = sym (ap length is ∙ length-map prefixes (node share side));
    some = λ k h. omega (arith, bits k [] h);
    bits = λ k h. omega (arith, bits k [] h, ap (λ (s : Share). length s.levels) own);
    evaluated = λ k d h.
        ap (λ ns. slice_index_or ns k d) is ∙ get_or-map (node share side) prefixes k [] d h
        ∙ ap (λ (s : Share). node s side (slice_index_or prefixes k [])) own ∙ ap (λ (x : Side). node (share_at shares report) x (slice_index_or prefixes k [])) (sym same);
  }
