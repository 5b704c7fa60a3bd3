-- Which reports both sides hold without clash.
use Rattle.std.specs.Prelude.{ℕ, Bool, not, if◌then◌else◌, ◌&&◌, List, [], ◌∷◌, Option, Some, None, map, nat_eq}
use Rattle.std.specs.List.{filter, filter_map, list_all}
use Rattle.std.specs.Cmp.Lexicographic.{pointwise}
use Rattle.definitions.specs.declared.Side.{Side}
use Rattle.definitions.specs.declared.Side.TheVariants.{Zero, One}
use Rattle.definitions.specs.Evaluation.{LevelWord, Share}
use Rattle.definitions.specs.Prefixes.{xor}
use Rattle.walk_definitions.specs.Ascending.{bytes_before, ascending}

-- an id and its two shares
pub record Report : Type 0 where
  pub id : List ℕ
  pub held0 : Share
  pub held1 : Share

-- a side's share of a report
abbrev pub held : Report → Side → Share
held report Zero = report.held0
held report One = report.held1

-- whether two lists, words or shares are equal
abbrev pub same_bytes : List ℕ → List ℕ → Bool
same_bytes xs ys = pointwise nat_eq xs ys

abbrev pub same_word : LevelWord → LevelWord → Bool
same_word v w =
    same_bytes v.seed w.seed && (not (xor v.left w.left) && (not (xor v.right w.right)
    && (nat_eq v.u w.u && (nat_eq v.v w.v && (nat_eq v.a w.a && nat_eq v.b w.b)))))

abbrev pub same_share : Share → Share → Bool
same_share s t = same_bytes s.id t.id && (same_bytes s.root t.root && (same_bytes s.corr t.corr && pointwise same_word s.levels t.levels))

-- the one content of all these shares
abbrev pub agreed : List Share → Option Share
agreed [] = None
agreed (s ∷ ss) = if list_all (same_share s) ss then Some s else None

-- the share that all shares of the id equal
abbrev pub standing : List Share → List ℕ → Option Share
standing shares id = agreed (filter (λ s. same_bytes s.id id) shares)

-- the report of an id that stands on both sides
abbrev pub joined : List ℕ → Option Share → Option Share → Option Report
joined id None t = None
joined id (Some s) None = None
joined id (Some s) (Some t) = Some (record { id = id; held0 = s; held1 = t })

-- the ids that stand on both sides, ascending by bytes, each with its two shares
abbrev pub batch : List Share → List Share → List Report
batch shares0 shares1 =
    filter_map (λ id. joined id (standing shares0 id) (standing shares1 id)) (ascending bytes_before (map (λ s. s.id) shares0))
