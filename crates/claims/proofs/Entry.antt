-- Entry, proved: the reader decrypts to send, the tag encrypts to read, and AES-ENC undoes AES-DEC.
use Rattle.std.specs.Prelude.{Result, Ok}
use Rattle.offer.specs.declared.TagFault.{TagFault}
use mathlib.Core.Path.{◌≡◌, refl, sym, ap, ap₂, ◌∙◌}
use mathlib.Core.Bool.{true}
use mathlib.Core.List.{List}
use Prim.Native.Nat.{ℕ, ◌+◌, ◌<◌}
use native.Mathlib.Omega.{arith}
use borrow.Author.Tests.{eq-eqb}
use lib.ListN.{length, drop, length-drop}
use lib.Seq.{get_or-drop}
use Rattle.ground.specs.Bytes.{byte_at}
use Rattle.ground.specs.Choice.{both}
use Rattle.aes.specs.AesEnc.{aes_enc}
use Rattle.frames.specs.declared.Iam2.{Iam2}
use Rattle.frames.specs.declared.Mam2.{Mam2}
use Rattle.frames.specs.declared.Kind.TheVariants.{Iam2 as Iam2Kind, Mam2 as Mam2Kind}
use Rattle.frames.specs.Kinds.{kind_of}
use Rattle.frames.specs.Constants.{c_iam2, c_mam2}
use Rattle.frames.specs.Lengths.{length_fits}
use Rattle.frames.specs.Messages.{iam2_of, mam2_of}
use Rattle.frames.proofs.Shape.{iam2_shape, mam2_shape}
use Rattle.frames.proofs.Taken.{iam2_taken, mam2_taken}
use Rattle.entry.specs.Judged.{iam2_checks, mam2_checks}
use Rattle.entry.specs.Opened.{purpose_in, iam_proof, mam_proof}
use Rattle.keytable.specs.Named.{key_with}
use Rattle.tag.specs.Answers.{Call, Effect, let_in, if_fine, iam2_answer, mam2_answer, by_kind, answer_with}
use Rattle.offer.proofs.Lines.{passes, ends}
use Rattle.reader_build.specs.Builds.{purpose_fits, iam2_made, mam2_made}
use Rattle.sheet.specs.Setups.{Setup}
use Rattle.entry.specs.declared.Session.{Session}
use Rattle.reader.specs.declared.Keys.{Keys}
use Rattle.claims.proofs.InTurn.{in_turn_lem}
use Rattle.claims.specs.Entry.{Knows, Array, Iam2Enters, Mam2Enters}
use Rattle.claims.proofs.Proofs.{sent, sixteen, opened, clear, purpose_in_lem, iam_holds, middle_holds}

-- checks that are fine, and the Purpose that was opened
entered : (c : Call) (v : Result Unit TagFault) (p purpose : ℕ) → v ≡ Ok tt → p ≡ purpose
    → if_fine c v (let_in c p c.identity c.user) ≡ let_in c purpose c.identity c.user
unfolding if_fine
entered c v p purpose e q = ap₂ {C = Effect} (λ x y. if_fine c x (let_in c y c.identity c.user)) e q

iam2_let_in : (c : Call) (setup : Setup) (held : Session) (keys : Keys) (purpose : ℕ) (irnd : List ℕ)
    → Knows keys (key_with held.keyid setup.keys)
    → Array 10 held.tchallenge
    → Array 4 irnd
    → purpose_fits purpose ≡ true
    → c.message ≡ iam2_made keys purpose irnd held.tchallenge
    → iam2_answer c setup.keys held ≡ let_in c purpose c.identity c.user
unfolding iam2_made iam2_answer iam2_checks length_fits
iam2_let_in c setup held keys purpose irnd knows t m fit e =
    let key = key_with held.keyid setup.keys in
    let small : c_iam2 < 4096 = omega arith in
    let n = sixteen keys key c_iam2 purpose irnd held.tchallenge knows small m t in
    let f : Iam2 = record { rfu = 0; iresponse = sent keys key c_iam2 purpose irnd held.tchallenge knows small m t }
    in
    let taken : iam2_of c.message ≡ f = ap iam2_of e ∙ iam2_taken f n (omega arith) in
    let long : length c.message ≡ 17 = ap length e ∙ (iam2_shape f n (omega arith)).0 in
    let block : aes_enc key.enc (iam2_of c.message).iresponse ≡ clear c_iam2 purpose irnd held.tchallenge
    m.long t.long =
    ap (λ (g : Iam2). aes_enc key.enc g.iresponse) taken
    ∙ opened keys key c_iam2 purpose irnd held.tchallenge knows small m t in
    let proof = ap (iam_proof c_iam2 held) block ∙ iam_holds c_iam2 purpose irnd held.tchallenge m.long t.long
    held refl in
    entered c _ _ purpose (sym (passes _ _ (eq-eqb _ _ long)
    (passes _ _ (eq-eqb _ _ (ap (λ (g : Iam2). g.rfu) taken)) (passes _ _ proof ends))))
    (ap purpose_in block ∙ purpose_in_lem c_iam2 purpose irnd held.tchallenge m.long t.long fit)

-- the last four bytes of ten
last_four : (s : List ℕ) → Array 10 s → Array 4 (drop 6 s)
last_four s a = record {
  long = omega (arith, length-drop 6 s, a.long);
  bytes =
      λ i. rw (get_or-drop 6 s i 0) (a.bytes (6 + i));
}

mam2_let_in : (c : Call) (setup : Setup) (held : Session) (keys : Keys) (purpose : ℕ) (ichallenge : List ℕ)
    → Knows keys (key_with held.keyid setup.keys)
    → Array 10 held.tchallenge
    → Array 10 ichallenge
    → held.ichallenge ≡ drop 6 ichallenge
    → purpose_fits purpose ≡ true
    → c.message ≡ mam2_made keys purpose ichallenge held.tchallenge
    → mam2_answer c setup.keys held ≡ let_in c purpose c.identity c.user
unfolding mam2_made mam2_answer mam2_checks length_fits mam_proof
mam2_let_in c setup held keys purpose ichallenge knows t i own fit e =
    let key = key_with held.keyid setup.keys in
    let small : c_mam2 < 4096 = omega arith in
    let m = last_four ichallenge i in
    let n = sixteen keys key c_mam2 purpose (drop 6 ichallenge) held.tchallenge knows small m t in
    let f : Mam2 = record {
      rfu = 0;
      iresponse =
          sent keys key c_mam2 purpose (drop 6 ichallenge) held.tchallenge knows small m t;
    } in
    let taken : mam2_of c.message ≡ f = ap mam2_of e ∙ mam2_taken f n (omega arith) in
    let long : length c.message ≡ 17 = ap length e ∙ (mam2_shape f n (omega arith)).0 in
    let block : aes_enc key.enc (mam2_of c.message).iresponse ≡ clear c_mam2 purpose (drop 6 ichallenge)
    held.tchallenge m.long t.long =
    ap (λ (g : Mam2). aes_enc key.enc g.iresponse) taken
    ∙ opened keys key c_mam2 purpose (drop 6 ichallenge) held.tchallenge knows small m t in
    let proof =
    ap (mam_proof held) block
    ∙ ap₂ both (iam_holds c_mam2 purpose (drop 6 ichallenge) held.tchallenge m.long t.long held refl)
    (middle_holds c_mam2 purpose (drop 6 ichallenge) held.tchallenge m.long t.long held refl own) in
    entered c _ _ purpose (sym (passes _ _ (eq-eqb _ _ long)
    (passes _ _ (eq-eqb _ _ (ap (λ (g : Mam2). g.rfu) taken)) (passes _ _ proof ends))))
    (ap purpose_in block ∙ purpose_in_lem c_mam2 purpose (drop 6 ichallenge) held.tchallenge m.long t.long fit)

pub iam2_enters : Iam2Enters
unfolding by_kind iam2_made
iam2_enters c tag keys purpose irnd w knows t m fit e =
    let small : c_iam2 < 4096 = omega arith in
    let key = key_with tag.session.keyid tag.setup.keys in
    let n = sixteen keys key c_iam2 purpose irnd tag.session.tchallenge knows small m t in
    let shape = iam2_shape (record {
      rfu = 0;
      iresponse =
          sent keys key c_iam2 purpose irnd tag.session.tchallenge knows small m t;
    }) n (omega arith) in
    ap (answer_with tag.setup)
    (in_turn_lem c tag Iam2Kind w (let l : length c.message ≡ 17 = ap length e ∙ shape.0 in omega (arith, l))
    (ap (λ (l : List ℕ). kind_of (byte_at l 0)) e ∙ shape.1)
    ∙ iam2_let_in c tag.setup tag.session keys purpose irnd knows t m fit e)

pub mam2_enters : Mam2Enters
unfolding by_kind mam2_made
mam2_enters c tag keys purpose ichallenge w knows t i own fit e =
    let small : c_mam2 < 4096 = omega arith in
    let key = key_with tag.session.keyid tag.setup.keys in
    let m = last_four ichallenge i in
    let n = sixteen keys key c_mam2 purpose (drop 6 ichallenge) tag.session.tchallenge knows small m t in
    let shape = mam2_shape (record {
      rfu = 0;
      iresponse =
          sent keys key c_mam2 purpose (drop 6 ichallenge) tag.session.tchallenge knows small m t;
    }) n (omega arith)
    in
    ap (answer_with tag.setup)
    (in_turn_lem c tag Mam2Kind w (let l : length c.message ≡ 17 = ap length e ∙ shape.0 in omega (arith, l))
    (ap (λ (l : List ℕ). kind_of (byte_at l 0)) e ∙ shape.1)
    ∙ mam2_let_in c tag.setup tag.session keys purpose ichallenge knows t i own fit e)
