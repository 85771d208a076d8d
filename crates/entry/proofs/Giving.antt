-- What the code of IAM3 gives, from its parts.
use Rattle.std.specs.Prelude.{Result, Ok, Err}
use Rattle.offer.specs.declared.Answer.TheVariants.{Entered}
use mathlib.Core.Path.{◌≡◌, sym, ap, ◌∙◌, subst}
use mathlib.Core.Bool.{Bool, true, false}
use mathlib.Core.List.{List, [], ◌∷◌}
use Prim.Native.Nat.{ℕ, ◌+◌, ◌≤◌}
use native.Mathlib.Omega.{arith}
use lib.ListN.{length}
use Rattle.ground.specs.Choice.{pick}
use Rattle.ground.specs.Checks.{◌else◌, judged_to}
use Rattle.memory.specs.declared.Block.{Block}
use Rattle.memory.specs.declared.Area.{Area}
use Rattle.memory.specs.declared.Area.TheVariants.{Identity, User}
use Rattle.sheet.specs.declared.Key.{Key}
use Rattle.sheet.specs.declared.Terms.{Terms}
use Rattle.sheet.specs.Setups.{Setup, terms_of}
use Rattle.frames.specs.declared.Iam3.{Iam3 as Iam3Fields}
use Rattle.frames.specs.Blocks.{blocks_length}
use Rattle.frames.specs.Lengths.{iam3_head_length, iam3_mac_at, iam3_length}
use Rattle.frames.specs.Messages.{iam3_of}
use Rattle.offer.specs.declared.TagFault.{TagFault}
use Rattle.offer.specs.declared.TagFault.TheVariants.{ProofWrong}
use Rattle.offer.specs.Outcomes.{settled}
use Rattle.offer.specs.Checks.{judged}
use Rattle.keytable.specs.Named.{key_with}
use Rattle.offer.specs.Records.{block_asked}
use Rattle.offer.proofs.Lines.{then_fine, then_wrong}
use Rattle.entry.specs.declared.Reacted.{Reacted}
use Rattle.entry.specs.declared.Session.{Session}
use Rattle.entry.specs.Sessions.{cleared, entered}
use Rattle.entry.specs.Opened.{iam3_proof}
use Rattle.entry.specs.Judged.{iam3_checks, iam3_field_checks}
use Rattle.entry.specs.Given.{LetsIn, Writes, iam3_checked, iam3_purpose, iam3_stored}
use Rattle.entry.specs.Decided.{ProofDecides}
use Rattle.entry.proofs.Passed.{iam3_length_lem}

-- What `refused` of the code gives.
abbrev pub Turned : Reacted → TagFault → Type 0
Turned r f = (r.outcome ≡ Err f) × (r.session ≡ cleared)

module _ (v : Result Unit TagFault) (purpose : ℕ) (r : Reacted) where
  pub turns_away : (f : TagFault) → v ≡ Err f → Turned r f → LetsIn v purpose r
  turns_away f e t = record {
    outcome = t.0 ∙ ap (λ (x : Result Unit TagFault). settled x (Ok (Entered purpose)) Err) (sym e);
    session = t.1 ∙ ap (λ (x : Result Unit TagFault). settled x entered (λ f. cleared)) (sym e);
  }

-- ---- IAM3

-- its blocks are there once its fields were judged
pub iam3_whole_lem : (terms : Terms) (k : Key) (m : List ℕ) (f : Iam3Fields) (v : Result Unit TagFault)
    → v ≡ judged (iam3_field_checks terms k m) → v ≡ Ok tt → f ≡ iam3_of m
    → iam3_head_length + blocks_length f.custom.blocksize true f.custom.blockcount ≤ length m
unfolding iam3_length iam3_mac_at
iam3_whole_lem terms k m f v w x e =
    let l = iam3_length_lem terms k m (sym w ∙ x) in
    let Whole : Iam3Fields → Type 0 =
    λ g. iam3_head_length + blocks_length g.custom.blocksize true g.custom.blockcount ≤ length m in
    subst Whole (sym e) (omega (arith, l))

-- what the proof decides
by_proof : (t : Bool) (purpose : ℕ) (stored : Area → List ℕ → List ℕ) (i u : List ℕ) (r : Reacted) (i' u' : List ℕ)
    → r.outcome ≡ pick t (Ok (Entered purpose)) (Err ProofWrong) → r.session ≡ pick t entered cleared
    → i' ≡ pick t (stored Identity i) i → u' ≡ pick t (stored User u) u
    → Writes (pick t (Ok tt) (Err ProofWrong)) purpose stored i u r i' u'
by_proof true purpose stored i u r i' u' o s p q =
    record { lets_in = record { outcome = o; session = s }; in_identity = p; in_user = q }
by_proof false purpose stored i u r i' u' o s p q =
    record { lets_in = record { outcome = o; session = s }; in_identity = p; in_user = q }

module _ (setup : Setup) (held : Session) (m : List ℕ) (k : Key) (ke : k ≡ key_with held.keyid setup.keys)
    (v : Result Unit TagFault) (w : v ≡ judged (iam3_field_checks (terms_of setup) k m)) (i u : List ℕ)
  where
    abbrev named : Key
    named = key_with held.keyid setup.keys

    fields_judged : judged (iam3_field_checks (terms_of setup) named m) ≡ v
    fields_judged = sym (w ∙ (λ j. judged (iam3_field_checks (terms_of setup) (ke j) m)))

    abbrev Written : Reacted → List ℕ → List ℕ → Type 0
    Written = Writes (iam3_checked setup held m) (iam3_purpose setup held m) (iam3_stored setup held m) i u

    -- a fault of the fields is the fault of the message
    pub iam3_refused : (fault : TagFault) (r : Reacted) → v ≡ Err fault → Turned r fault → Written r i u
    unfolding iam3_checks
    iam3_refused fault r x t =
        let wrong : iam3_checked setup held m ≡ Err fault =
        then_wrong _ fault (iam3_field_checks (terms_of setup) named m) (fields_judged ∙ x) in
        record {
          lets_in = turns_away _ (iam3_purpose setup held m) r fault wrong t;
          in_identity = ap (λ (y : Result Unit TagFault). settled y (iam3_stored setup held m Identity i) (λ f. i))
              (sym wrong);
          in_user = ap (λ (y : Result Unit TagFault). settled y (iam3_stored setup held m User u) (λ f. u)) (sym wrong);
        }

    module _ (f : Iam3Fields) (e : f ≡ iam3_of m) (b : Block) (be : b ≡ block_asked setup.profiles f.custom) where
      abbrev asked : b ≡ block_asked setup.profiles (iam3_of m).custom
      asked = be ∙ (λ j. block_asked setup.profiles (e j).custom)

      abbrev proof : Bool
      proof = iam3_proof named held (iam3_of m) m

      decides : iam3_checked setup held m ≡ pick proof (Ok tt) (Err ProofWrong) → v ≡ Ok tt → (r : Reacted)
          (i' u' : List ℕ) → ProofDecides k held f b m i u r i' u' → Written r i' u'
      decides d x r i' u' h =
          let h1 = subst (λ (x : Key). ProofDecides x held f b m i u r i' u') ke h in
          let h2 = subst (λ (g : Iam3Fields). ProofDecides named held g b m i u r i' u') e h1 in
          let s = subst (λ (y : Block). ProofDecides named held (iam3_of m) y m i u r i' u') asked h2 in
          let Given : Result Unit TagFault → Type 0 =
          λ y. Writes y (iam3_purpose setup held m) (iam3_stored setup held m) i u r i' u' in
          subst Given (sym d)
          (by_proof proof (iam3_purpose setup held m) (iam3_stored setup held m) i u r i' u' s.outcome s.session
          s.in_identity s.in_user)

      pub iam3_settled : (r : Reacted) (i' u' : List ℕ) → v ≡ Ok tt → ProofDecides k held f b m i u r i' u'
          → Written r i' u'
      unfolding iam3_checks judged_to
      iam3_settled r i' u' x h =
          decides (then_fine ((proof else ProofWrong) ∷ []) (iam3_field_checks (terms_of setup) named m)
          (fields_judged ∙ x)) x r i' u' h
