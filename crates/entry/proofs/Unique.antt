-- No second answer fits the contract of an exported function: of IAM3 also both areas are determined.
use Rattle.std.specs.Prelude.{Result}
use Rattle.offer.specs.declared.TagFault.{TagFault}
use mathlib.Core.Path.{◌≡◌, refl}
use mathlib.Core.List.{List}
use Prim.Native.Nat.{ℕ}
use Rattle.ground.specs.OneAnswer.{OneAnswer, one, ◌&◌}
use Rattle.entry.specs.declared.Session.{Session}
use Rattle.entry.specs.declared.Reacted.{Reacted}
use Rattle.entry.specs.declared.Challenged.{Challenged}
use Rattle.entry.specs.Given.{Challenges, LetsIn}
use Rattle.entry.proofs.cleared.Reads as cleared
use Rattle.entry.proofs.cleared.Kinds as cleared-kinds
use Rattle.entry.proofs.refused.Reads as refused
use Rattle.entry.proofs.refused.Kinds as refused-kinds
use Rattle.entry.proofs.iam1.Reads as iam1
use Rattle.entry.proofs.iam1.Kinds as iam1-kinds
use Rattle.entry.proofs.mam1.Reads as mam1
use Rattle.entry.proofs.mam1.Kinds as mam1-kinds
use Rattle.entry.proofs.iam2.Reads as iam2
use Rattle.entry.proofs.iam2.Kinds as iam2-kinds
use Rattle.entry.proofs.mam2.Reads as mam2
use Rattle.entry.proofs.mam2.Kinds as mam2-kinds
use Rattle.entry.proofs.iam3.Reads as iam3
use Rattle.entry.proofs.iam3.Kinds as iam3-kinds

pub cleared_one : OneAnswer 0 cleared-kinds.ps cleared-kinds.r cleared.Post
cleared_one κs a x y v w p q = (one p q, refl)

pub refused_one : OneAnswer 0 refused-kinds.ps refused-kinds.r refused.Post
refused_one κs a x y v w p q = ((λ j. record { outcome = one p.0 q.0 j; session = one p.1 q.1 j }), refl)

challenged_one : (v : Result Unit TagFault) (bytes : List ℕ) (next : Session) (n : ℕ) (x y : Challenged n)
    → Challenges v bytes next x.reply x.session → Challenges v bytes next y.reply y.session → x ≡ y
challenged_one v bytes next n x y p q = λ j. record {
  reply = one p.reply q.reply j;
  session = one p.session q.session j;
}

pub iam1_one : OneAnswer 2 iam1-kinds.ps iam1-kinds.r iam1.Post
iam1_one κs a x y v w p q = (challenged_one _ _ _ 10 x y p q, refl)

pub mam1_one : OneAnswer 2 mam1-kinds.ps mam1-kinds.r mam1.Post
mam1_one κs a x y v w p q = (challenged_one _ _ _ 22 x y p q, refl)

reacted_one : (v : Result Unit TagFault) (purpose : ℕ) (x y : Reacted) → LetsIn v purpose x → LetsIn v purpose y → x ≡ y
reacted_one v purpose x y p q = λ j. record {
  outcome = one p.outcome q.outcome j;
  session = one p.session q.session j;
}

pub iam2_one : OneAnswer 2 iam2-kinds.ps iam2-kinds.r iam2.Post
iam2_one κs a x y v w p q = (reacted_one _ _ x y p q, refl)

pub mam2_one : OneAnswer 2 mam2-kinds.ps mam2-kinds.r mam2.Post
mam2_one κs a x y v w p q = (reacted_one _ _ x y p q, refl)

pub iam3_one : OneAnswer 4 iam3-kinds.ps iam3-kinds.r iam3.Post
iam3_one κs a x y v w p q = (
  reacted_one _ _ x y p.lets_in q.lets_in,
  refl & refl & refl & refl & one p.in_identity q.in_identity &
      one p.in_user q.in_user & refl,
)
