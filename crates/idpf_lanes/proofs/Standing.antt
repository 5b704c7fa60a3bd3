-- One depth further down.
use Rattle.std.proofs.Common.{◌≡◌, ℕ, suc, ◌+◌, ◌-◌, ◌<◌, ◌≤◌, Bool, false, List, [], ◌∷◌, ◌++◌, length, map, take, sym, ◌∙◌, ap, ap₂, refl, subst, arith, slice_index, slice_index_or, slice_set}
use Rattle.std.proofs.lemmas.List.{length-map, length-take-le, get_or-map, get_or-take, get_or_default, take_more, take_all, take-append-le}
use Rattle.definitions.specs.declared.Side.{Side}
use Rattle.definitions.specs.Evaluation.{Share, LevelWord, Node, child, level_word, no_word, node, root}
use Rattle.definitions.proofs.EvaluationLaws.{child_law, root_law}
use Rattle.node_growth.specs.Steps.{Step, no_step, no_node, child_of}
use Rattle.node_growth.specs.Plans.{IsPlanned, AreLonger}
use Rattle.idpf_lanes.specs.Stands.{Stand, AreLong}

-- the node of a front that is one bit longer
longer_front : (share : Share) (side : Side) (q : List Bool) (depth : ℕ) (word : LevelWord) (parent : Node) → depth < length q → depth < length share.levels
    → word ≡ slice_index_or share.levels depth word → parent ≡ node share side (take depth q)
    → child word side parent (slice_index_or q depth false) ≡ node share side (take (depth + 1) q)
longer_front share side q depth word parent room level is at =
    let bit = slice_index_or q depth false in
    let long : length (take depth q) ≡ depth = length-take-le depth q (omega arith) in
    let place : depth ≡ length (take depth q) + 1 - 1 = omega (arith, long) in
    ap (λ w. child w side parent bit) (is ∙ get_or_default share.levels depth word no_word level ∙ ap (λ i. slice_index_or share.levels i no_word) place)
    ∙ ap (λ n. child (level_word share (length (take depth q) + 1)) side n bit) at
    ∙ sym (child_law share side (take depth q) bit (omega (arith, long)))
    ∙ ap (node share side) (sym (take_more q depth false room))

pub stand_more : (share : Share) (side : Side) (depth parents : ℕ) (prefixes : List (List Bool)) (nodes next : List Node) (before places : List ℕ) (steps : List Step) (made : ℕ) (word : LevelWord)
    → Stand share side depth prefixes nodes before
    → IsPlanned prefixes depth parents before places steps made (length prefixes)
    → AreLonger depth prefixes → depth < length share.levels → word ≡ slice_index_or share.levels depth word → made ≤ length steps
    → next ≡ map (child_of word side nodes) (take made steps)
    → Stand share side (depth + 1) prefixes next places
stand_more share side depth parents prefixes nodes next before places steps made word s p longer level is room grown =
    let few : length (take made steps) ≡ made = length-take-le made steps room in
    record {
      below = λ k h. subst (λ n. slice_index places k < n) (sym (ap length grown ∙ length-map (take made steps) (child_of word side nodes) ∙ few)) (p.below k h);
      own = λ k h.
          let at = slice_index places k in
          ap (λ ns. slice_index_or ns at no_node) grown
          ∙ get_or-map (child_of word side nodes) (take made steps) at no_step no_node (omega (arith, few, p.below k h))
          ∙ ap (child_of word side nodes) (get_or-take made steps at no_step (p.below k h) ∙ p.own k h)
          ∙ longer_front share side (slice_index_or prefixes k []) depth word _ (longer k h) level is (s.own k h);
    }

-- what was made stands in the first places
pub made_first : {X Y : Type 0} (f : X → Y) (steps : List X) (into : List Y) (made : ℕ) → made ≤ length steps
    → take (length (take made steps)) into ≡ map f (take made steps) → take made into ≡ map f (take made steps)
made_first f steps into made p grown = ap (λ n. take n into) (sym (length-take-le made steps p)) ∙ grown

-- the first nodes are copied over others
pub copied_over : {Y : Type 0} (into copied rest : List Y) (made : ℕ) → made ≤ length into → copied ≡ take made into
    → take made (copied ++ rest) ≡ take made into
copied_over into copied rest made q is =
    let long : length copied ≡ made = ap length is ∙ length-take-le made into q in
    take-append-le made copied rest (omega (arith, long)) ∙ take_all made copied (omega (arith, long)) ∙ is

-- at depth 0 the root alone stands, and each prefix stands at it
pub stand_first : (share : Share) (side : Side) (prefixes : List (List Bool)) (nodes : List Node) (places : List ℕ) (n : Node) → n ≡ root share side → 0 < length nodes
    → length places ≡ length prefixes → ((k : ℕ) → k < length places → slice_index places k ≡ 0)
    → Stand share side 0 prefixes (take 1 (slice_set nodes 0 n)) places
stand_first share side prefixes [] places n is some long first = absurd (omega arith)
stand_first share side prefixes (m ∷ nodes) places n is some long first =
    let at : (k : ℕ) → k < length prefixes → slice_index places k ≡ 0 = λ k h. first k (omega (arith, long)) in
    record {
      below = λ k h. subst (λ p. p < 1) (sym (at k h)) (omega arith);
      own = λ k h. ap (λ p. slice_index_or (n ∷ []) p no_node) (at k h) ∙ is ∙ sym (root_law share side);
    }

-- with all bits of each prefix, its own node stands at its place
pub all_placed : (f : List Bool → Node) (level : ℕ) (prefixes : List (List Bool)) (nodes : List Node) (places : List ℕ) → length places ≡ length prefixes
    → AreLong level prefixes
    → ((k : ℕ) → k < length prefixes → slice_index_or nodes (slice_index places k) no_node ≡ f (take level (slice_index_or prefixes k [])))
    → map (λ p. slice_index_or nodes p no_node) places ≡ map f prefixes
all_placed f level [] nodes [] long bits own = refl
all_placed f level [] nodes (p ∷ places) long bits own = absurd (omega arith)
all_placed f level (q ∷ prefixes) nodes [] long bits own = absurd (omega arith)
all_placed f level (q ∷ prefixes) nodes (p ∷ places) long bits own =
    let whole : take level q ≡ q = take_all level q (omega (arith, bits 0 (omega arith))) in
    ap₂ (λ n ns. n ∷ ns) (own 0 (omega arith) ∙ ap f whole)
    (all_placed f level prefixes nodes places (omega arith) (λ k h. bits (suc k) (omega arith)) (λ k h. own (suc k) (omega arith)))
