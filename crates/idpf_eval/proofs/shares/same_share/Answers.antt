use Rattle.std.proofs.Common.{rules, ◌≡◌, List, refl, sym, subst}
use Rattle.std.specs.Bool.{Decides}
use Rattle.std.specs.Cmp.Lexicographic.{pointwise}
use Rattle.std.proofs.lemmas.Slice.Eq.{slice_eq-Decides}
use Rattle.definitions.specs.Evaluation.{LevelWord, Share}
use Rattle.idpf_eval.specs.contracts.shares.LevelWordPartialEq.TheImpl.{eq-value as word_eq}
use Rattle.idpf_eval.specs.contracts.shares.SharePartialEq.TheImpl.{eq-value as share_eq}
use Rattle.idpf_eval.proofs.shares.same_share.Goals as goal

words : (a b : LevelWord) → Decides (word_eq.it a b) (a ≡ b)
words a b = search rules

lists : (xs ys : List LevelWord) → Decides (pointwise word_eq.it xs ys) (xs ≡ ys)
lists xs ys = slice_eq-Decides words xs ys _ refl

shares : (a b : Share) → Decides (share_eq.it a b) (a ≡ b)
shares a b = search (rules, lists)

pub returns : goal.returns
returns c = record {
  equal =
      subst (λ r. Decides r (c.args.left.now ≡ c.args.right.now)) (sym c.eq.ensures) (shares c.args.left.now c.args.right.now);
}
