-- Where an id was first uploaded.
use Rattle.std.specs.Prelude.{◌≡◌, ℕ, ◌+◌, Bool, true, false, not, if◌then◌else◌, List, [], ◌∷◌, Option, Some, None}
use Rattle.std.specs.List.{filter, list_all}
use Rattle.std.specs.Ordering.{nat_cmp}
use Rattle.std.specs.Cmp.Lexicographic.{slice_cmp}
use Rattle.std.specs.BTreeMap.{BTreeMap, get}
use Rattle.walk_definitions.specs.Reports.{same_bytes, same_share}
use Rattle.core_definitions.specs.declared.replies.Reply.{Reply}
use Rattle.core_definitions.specs.declared.replies.Reply.TheVariants.{Stored, Repeat, Clash}
use Rattle.core_definitions.specs.System.{Entry, IsLegalAfter}
use Rattle.intake_state.specs.declared.firsts.First.{First}

-- the entries of an id
abbrev pub entries_of : List ℕ → List Entry → List Entry
entries_of id log = filter (λ e. same_bytes e.share.id id) log

-- the entries' shares all equal this entry's
abbrev pub all_equal : Entry → List Entry → Bool
all_equal e es = list_all (λ f. same_share e.share f.share) es

-- what is known of an id, where the log's first entry is at this place
abbrev pub first_from : ℕ → List Entry → List ℕ → Option First
first_from at [] id = None
first_from at (e ∷ es) id =
    if same_bytes e.share.id id then Some (record { place = at; clashed = not (all_equal e (entries_of id es)) }) else first_from (at + 1) es id

abbrev pub first_in : List Entry → List ℕ → Option First
first_in log id = first_from 0 log id

abbrev pub is_clash : Reply → Bool
is_clash Stored = false
is_clash Repeat = false
is_clash Clash = true

-- after one more entry of the id, at this place and with this reply
abbrev pub first_after : Option First → ℕ → Reply → First
first_after None place reply = record { place = place; clashed = false }
first_after (Some first) place reply = record { place = first.place; clashed = is_clash reply }

-- the log is legal, and the map has what is known of each id
pub record IsIndexed (log : List Entry) (firsts : BTreeMap (List ℕ) First) : Type 0 where
  pub legal : IsLegalAfter [] log
  pub known : (id : List ℕ) → get (slice_cmp nat_cmp) firsts id ≡ first_in log id
