-- Where the node of a report and a prefix stands in the list of all.
use Rattle.std.proofs.Common.{◌≡◌, ℕ, zero, suc, ◌+◌, ◌*◌, ◌<◌, Bool, List, [], ◌∷◌, ◌++◌, length, map, take, refl, sym, ◌∙◌, ap, ap₂, arith, append_assoc, length-append, get_or, slice_index, slice_index_or}
use Rattle.std.proofs.lemmas.List.{length-map, get_or-map, get_or_append_left, get_or-append-add, append-nil, take_more}
use Rattle.std.proofs.Math.Nat.{add-mul}
use Rattle.definitions.specs.declared.Side.{Side}
use Rattle.definitions.specs.Evaluation.{Share, Node, node}
use Rattle.node_growth.specs.Steps.{no_node}
use Rattle.kept_nodes.specs.Kept.{share_at, node_at, report_nodes, nodes_of, PartSeen}

-- one row more
more_rows : (count width : ℕ) → suc count * width ≡ width + count * width
more_rows count width = omega (arith, add-mul 1 count width)

no_rows : (width : ℕ) → 0 * width ≡ 0
no_rows width = omega arith

-- the place of a row's node is below the number of all nodes
row_within : (count width row place : ℕ) → row < count → place < width → row * width + place < count * width
row_within zero width row place h q = absurd (omega arith)
row_within (suc count) width zero place h q = omega (arith, more_rows count width)
row_within (suc count) width (suc row) place h q =
    omega (arith, more_rows count width, more_rows row width, row_within count width row place (omega arith) q)

module _ (shares : List Share) (side : Side) (prefixes : List (List Bool)) where
  row_count : (report : ℕ) → length (report_nodes shares side prefixes report) ≡ length prefixes
  row_count report = length-map prefixes (node (share_at shares report) side)

  -- a report has a node for each prefix
  nodes_count : (reports : List ℕ) → length (nodes_of shares side prefixes reports) ≡ length reports * length prefixes
  nodes_count [] = sym (no_rows (length prefixes))
  nodes_count (report ∷ reports) =
      let rest = nodes_of shares side prefixes reports in
      length-append (report_nodes shares side prefixes report) rest
      ∙ ap₂ (λ (m n : ℕ). m + n) (row_count report) (nodes_count reports)
      ∙ sym (more_rows (length reports) (length prefixes))

  -- those of more reports stand behind
  pub nodes_more : (before more : List ℕ) → nodes_of shares side prefixes (before ++ more) ≡ nodes_of shares side prefixes before ++ nodes_of shares side prefixes more
  nodes_more [] more = refl
  nodes_more (report ∷ before) more =
      ap (λ ns. report_nodes shares side prefixes report ++ ns) (nodes_more before more)
      ∙ sym (append_assoc (report_nodes shares side prefixes report) (nodes_of shares side prefixes before) (nodes_of shares side prefixes more))

  -- the node at a place of a row is that of the row's report at the place's prefix
  row_node : (reports : List ℕ) (row place : ℕ) → row < length reports → place < length prefixes
      → slice_index_or (nodes_of shares side prefixes reports) (row * length prefixes + place) no_node
      ≡ node_at shares side (slice_index reports row) (slice_index_or prefixes place [])
  row_node [] row place h q = absurd (omega arith)
  row_node (report ∷ reports) zero place h q =
      let row_nodes = report_nodes shares side prefixes report in
      let rest = nodes_of shares side prefixes reports in
      let same : 0 * length prefixes + place ≡ place = omega (arith, no_rows (length prefixes)) in
      ap (λ i. get_or (row_nodes ++ rest) i no_node) same
      ∙ get_or_append_left row_nodes rest no_node place (omega (arith, row_count report))
      ∙ get_or-map (node (share_at shares report) side) prefixes place [] no_node q
  row_node (report ∷ reports) (suc row) place h q =
      let row_nodes = report_nodes shares side prefixes report in
      let rest = nodes_of shares side prefixes reports in
      let same : suc row * length prefixes + place ≡ length row_nodes + (row * length prefixes + place) =
      omega (arith, more_rows row (length prefixes), row_count report) in
      ap (λ i. get_or (row_nodes ++ rest) i no_node) same
      ∙ get_or-append-add row_nodes rest (row * length prefixes + place) no_node
      ∙ row_node reports row place (omega arith) q

  -- one report more stands behind the first ones
  pub rows_more : (live : List ℕ) (i : ℕ) (share : Share) (first now next row : List Node) → i < length live → share ≡ share_at shares (get_or live i 0)
      → now ≡ first ++ nodes_of shares side prefixes (take i live) → row ≡ map (node share side) prefixes → next ≡ now ++ row
      → next ≡ first ++ nodes_of shares side prefixes (take (i + 1) live)
  rows_more live i share first now next row below own before made put =
      let done = nodes_of shares side prefixes (take i live) in
      let mine = report_nodes shares side prefixes (get_or live i 0) in
      put ∙ ap₂ (λ (xs ys : List Node). xs ++ ys) before (made ∙ ap (λ (s : Share). map (node s side) prefixes) own)
      ∙ append_assoc first done mine
      ∙ ap (λ (ns : List Node). first ++ (done ++ ns)) (sym (append-nil mine))
      ∙ ap (λ (ns : List Node). first ++ ns) (sym (nodes_more (take i live) (get_or live i 0 ∷ [])))
      ∙ ap (λ (rs : List ℕ). first ++ nodes_of shares side prefixes rs) (sym (take_more live i 0 below))

-- at no prefix reports have no node
pub no_prefixes : (shares : List Share) (side : Side) (reports : List ℕ) → nodes_of shares side [] reports ≡ []
no_prefixes shares side [] = refl
no_prefixes shares side (report ∷ reports) = no_prefixes shares side reports

-- the node of a row and a place of what is kept stands in its list
module _ (kept : PartSeen) (shares : List Share) (side : Side) (places : List ℕ) (prefixes : List (List Bool)) (nodes : List Node) (row place width : ℕ)
    (same : width ≡ length prefixes) (is : record { shares = shares; side = side; places = places; prefixes = prefixes } ≡ kept)
    (made : nodes ≡ nodes_of shares side prefixes places) (h : row < length kept.places) (q : place < length kept.prefixes) where
  in_rows : row < length places
  in_rows = omega (arith, h, ap (λ (k : PartSeen). length k.places) is)

  in_row : place < length prefixes
  in_row = omega (arith, q, ap (λ (k : PartSeen). length k.prefixes) is)

  pub kept_within : row * width + place < length nodes
  kept_within = rw same (omega (arith, ap length made, nodes_count shares side prefixes places, row_within (length places) (length prefixes) row place in_rows in_row))

  pub kept_at : slice_index_or nodes (row * width + place) no_node ≡ node_at kept.shares kept.side (slice_index kept.places row) (slice_index_or kept.prefixes place [])
  kept_at =
      ap (λ (w : ℕ). slice_index_or nodes (row * w + place) no_node) same
      ∙ ap (λ (ns : List Node). slice_index_or ns (row * length prefixes + place) no_node) made
      ∙ row_node shares side prefixes places row place in_rows in_row
      ∙ ap (λ (k : PartSeen). node_at k.shares k.side (slice_index k.places row) (slice_index_or k.prefixes place [])) is
