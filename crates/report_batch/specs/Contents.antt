-- What a side has under an id.
use Rattle.std.specs.Prelude.{ℕ, if◌then◌else◌, List, [], ◌∷◌, Option, Some, None}
use Rattle.std.specs.List.{filter, list_all}
use Rattle.definitions.specs.Evaluation.{Share}
use Rattle.walk_definitions.specs.Reports.{same_bytes, same_share}
use Rattle.report_batch.specs.declared.content.Content.{Content}
use Rattle.report_batch.specs.declared.content.Content.TheVariants.{One, Clash}

-- what a side has under an id, if it has these shares of it
abbrev pub content : List Share → Option Content
content [] = None
content (s ∷ ss) = Some (if list_all (same_share s) ss then One s else Clash)

-- what a side that has these shares has under an id
abbrev pub content_of : List Share → List ℕ → Option Content
content_of shares id = content (filter (λ s. same_bytes s.id id) shares)

-- what a side has after one more share
abbrev pub met : Option Content → Share → Content
met None s = One s
met (Some (One t)) s = if same_share t s then One t else Clash
met (Some Clash) s = Clash

-- both sides' shares, where each side has one content
abbrev pub both : Content → Option Content → Option (Share × Share)
both (One s) None = None
both (One s) (Some (One t)) = Some (s, t)
both (One s) (Some Clash) = None
both Clash one = None
