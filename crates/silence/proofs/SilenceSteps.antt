-- One message to two tags that are alike and hold the same: the same answer, and the same is held, of a record that is
-- named.
use Rattle.std.specs.Prelude.{Result, Ok, Err}
use Rattle.offer.specs.declared.Answer.TheVariants.{Replied, Entered}
use mathlib.Core.Path.{◌≡◌, refl, sym, ap, ◌∙◌, subst}
use mathlib.Core.Bool.{Bool, true, false, false≢true}
use mathlib.Core.List.{List, [], ◌∷◌}
use Prim.Native.Nat.{ℕ, ◌≤◌}
use native.Mathlib.Omega.{arith}
use lib.ListN.{length}
use borrow.Author.Tests.{eqb-true, eq-eqb}
use Rattle.ground.specs.Bytes.{byte_at}
use Rattle.ground.specs.Choice.{pick}
use Rattle.aes.specs.AesEnc.{aes_enc}
use Rattle.memory.specs.declared.Area.TheVariants.{Identity, User}
use Rattle.memory.specs.Areas.{area_of, window_of, stored_in}
use Rattle.sheet.specs.declared.Key.{Key}
use Rattle.sheet.specs.Setups.{Setup}
use Rattle.frames.specs.declared.Kind.{Kind}
use Rattle.frames.specs.declared.Kind.TheVariants.{Tam1, Tam2, Iam1, Iam2, Iam3, Mam1, Mam2, Unsupported}
use Rattle.frames.specs.Kinds.{kind_of}
use Rattle.frames.specs.Lengths.{length_fits}
use Rattle.frames.specs.Messages.{tam1_of, tam2_of, iam1_of, iam2_of, iam3_of, mam1_of, mam2_of}
use Rattle.offer.specs.declared.TagFault.{TagFault}
use Rattle.offer.specs.declared.TagFault.TheVariants.{OtherError, NotSupported, OutOfTurn}
use Rattle.entry.specs.declared.Session.{Session}
use Rattle.entry.specs.declared.State.{State}
use Rattle.entry.specs.declared.State.TheVariants.{Initial, IamInit, MamInit, IaOk}
use Rattle.offer.specs.Checks.{judged}
use Rattle.entry.specs.Sessions.{cleared, entered}
use Rattle.tag.specs.States.{holding, at_rest, after_iam1, after_mam1, in_turn}
use Rattle.keytable.specs.Named.{key_with}
use Rattle.offer.specs.Records.{offered, block_asked}
use Rattle.tam.specs.Replies.{tam1_reply, tam2_reply}
use Rattle.entry.specs.Replies.{mam1_reply}
use Rattle.entry.specs.Opened.{purpose_in, opened_data, words_in, sent_block}
use Rattle.offer.specs.Judged.{lending_checks}
use Rattle.tam.specs.Judged.{tam2_checks}
use Rattle.tag.specs.Answers.{
  Effect,
  Call,
  refused,
  replied,
  let_in,
  if_fine,
  tam1_answer,
  tam2_answer,
  iam1_answer,
  iam2_answer,
  iam3_answer,
  mam1_answer,
  mam2_answer,
  by_kind,
  in_order,
  of_message,
  of_lending,
  effect_of,
  answer_with,
}
use Rattle.tag.specs.Runs.{Sent, call_of}
use Rattle.offer.proofs.Passed.{opening_length}
use Rattle.tam.proofs.Passed.{tam2_length_lem, tam2_key, tam2_inside}
use Rattle.silence.specs.Names.{carries_keyid, named_by}
use Rattle.silence.specs.Silence.{SetupsAlike, Memory, MemoriesAlike, SameChange, SameAnswer}
use Rattle.silence.proofs.SilenceStores.{unchanged, stored_alike}
use Rattle.silence.proofs.SilenceWords.{asked_open, window_alike, same_in_block}
use Rattle.silence.proofs.SilenceJudged.{
  finds,
  block_alike,
  lending_alike,
  opening_alike,
  tam2_alike,
  iam2_alike,
  iam3_alike,
  mam2_alike,
  permitted_present,
  tam2_slot,
  tam2_right,
  iam3_slot,
  iam3_right,
  iam3_inside,
}

-- ---- what is held

-- Between a challenge and its answer the record that is held is named.
abbrev pub HeldNamed : (ℕ → Bool) → Session → Type 0
HeldNamed named held = at_rest held.state ≡ false → named held.keyid ≡ true

pub cleared_named : (named : ℕ → Bool) → HeldNamed named cleared
unfolding cleared at_rest
cleared_named named h = absurd (false≢true (sym h))

entered_named : (named : ℕ → Bool) → HeldNamed named entered
unfolding entered at_rest
entered_named named h = absurd (false≢true (sym h))

iam_waits : (s : State) → after_iam1 s ≡ true → at_rest s ≡ false
unfolding at_rest
iam_waits Initial h = sym h
iam_waits IamInit h = refl
iam_waits MamInit h = refl
iam_waits IaOk h = sym h

mam_waits : (s : State) → after_mam1 s ≡ true → at_rest s ≡ false
unfolding at_rest
mam_waits Initial h = sym h
mam_waits IamInit h = refl
mam_waits MamInit h = refl
mam_waits IaOk h = sym h

-- a message with a KeyID has two bytes or more, where its length fits
carries_long : (k : Kind) (m : List ℕ) → carries_keyid k ≡ true → length_fits k m ≡ true → 2 ≤ length m
unfolding carries_keyid length_fits
carries_long Tam1 m h e = let n = eqb-true (length m) 12 e in omega arith
carries_long Tam2 m h e = let n = eqb-true (length m) 15 e in omega arith
carries_long Iam1 m h e = let n = eqb-true (length m) 2 e in omega arith
carries_long Iam2 m h e = absurd (false≢true h)
carries_long Iam3 m h e = absurd (false≢true h)
carries_long Mam1 m h e = let n = eqb-true (length m) 12 e in omega arith
carries_long Mam2 m h e = absurd (false≢true h)
carries_long Unsupported m h e = absurd (false≢true h)

-- a message of two bytes or more names the record of its second
pub names_second : (m rest : List ℕ) (first : ℕ) (k : Kind) → m ≡ first ∷ rest → kind_of first ≡ k
    → carries_keyid k ≡ true → length_fits k m ≡ true → named_by m (byte_at m 1) ≡ true
unfolding named_by
names_second m rest first k e f h l = subst (λ (z : List ℕ). named_by z (byte_at z 1) ≡ true) (sym e)
    (second rest (subst (λ (z : List ℕ). 2 ≤ length z) e (carries_long k m h l)))
  where
    second : (r : List ℕ) → 2 ≤ length (first ∷ r) → named_by (first ∷ r) (byte_at (first ∷ r) 1) ≡ true
    second [] z = absurd (let w : ⊥ = omega arith in w)
    second (x ∷ r) z = rw (f, h) (eq-eqb x x refl)

module _ (named : ℕ → Bool) (s t : Setup) (alike : SetupsAlike named s t) (x y : Memory)
    (mem : MemoriesAlike named s x y) (sent : Sent)
    (mine : (keyid : ℕ) → named_by sent.message keyid ≡ true → named keyid ≡ true) where
  abbrev c : Call
  c = call_of sent x.identity x.user

  abbrev d : Call
  d = call_of sent y.identity y.user

  pub record Step (a b : Effect) : Type 0 where
    pub same : SameAnswer x y (answer_with s a) (answer_with t b)
    pub holds : HeldNamed named a.session

  refusal : (f : TagFault) (held : Session) → HeldNamed named held → Step (refused c f held) (refused d f held)
  unfolding refused
  refusal f held h = record {
    same = record {
      outcome = refl;
      reply = refl;
      session = refl;
      identity =
          unchanged x.identity y.identity;
      user = unchanged x.user y.user;
    };
    holds = h;
  }

  to_initial : (f : TagFault) → Step (refused c f cleared) (refused d f cleared)
  to_initial f = refusal f cleared (cleared_named named)

  reply_alike : (r q : List ℕ) (held : Session) → r ≡ q → HeldNamed named held
      → Step (replied c r held) (replied d q held)
  unfolding replied
  reply_alike r q held e h = record {
    same = record {
      outcome = λ j. Ok (Replied (length (e j)));
      reply = e;
      session = refl;
      identity = unchanged x.identity y.identity;
      user = unchanged x.user y.user;
    };
    holds = h;
  }

  entry_alike : (p q : ℕ) (i u j v : List ℕ) → p ≡ q → SameChange x.identity y.identity i j
      → SameChange x.user y.user u v → Step (let_in c p i u) (let_in d q j v)
  unfolding let_in
  entry_alike p q i u j v e f g = record {
    same =
        record { outcome = ap (λ n. Ok (Entered n)) e; reply = refl; session = refl; identity = f; user = g };
    holds =
        entered_named named;
  }

  fine_alike : (v w : Result Unit TagFault) (a b : Effect) → v ≡ w → (v ≡ Ok tt → Step a b)
      → Step (if_fine c v a) (if_fine d w b)
  unfolding if_fine
  fine_alike v w a b e h = subst (λ (z : Result Unit TagFault). Step (if_fine c v a) (if_fine d z b)) e (as_judged v h)
    where
      as_judged : (z : Result Unit TagFault) → (z ≡ Ok tt → Step a b) → Step (if_fine c z a) (if_fine d z b)
      as_judged (Ok tt) k = k refl
      as_judged (Err f) k = to_initial f

  pick_alike : (b e : Bool) (p q p' q' : Effect) → b ≡ e → (b ≡ true → Step p p') → Step q q'
      → Step (pick b p q) (pick e p' q')
  pick_alike b e p q p' q' h f g = subst (λ (z : Bool). Step (pick b p q) (pick z p' q')) h (as_tested b f)
    where
      as_tested : (z : Bool) → (z ≡ true → Step p p') → Step (pick z p q) (pick z p' q')
      as_tested true k = k refl
      as_tested false k = g

  -- ---- by kind

  whole : (keyid : ℕ) → named keyid ≡ true → key_with keyid s.keys ≡ key_with keyid t.keys
  whole keyid n = (finds named s t alike keyid).whole n

  abbrev m : List ℕ
  m = sent.message

  module _ (held : Session) (same : key_with held.keyid s.keys ≡ key_with held.keyid t.keys) where
    iam2_step : Step (iam2_answer c s.keys held) (iam2_answer d t.keys held)
    unfolding iam2_answer
    iam2_step =
        fine_alike _ _ _ _ (iam2_alike named s t alike m held same)
        (λ h. entry_alike _ _ _ _ _ _ (λ j. purpose_in (aes_enc (same j).enc (iam2_of m).iresponse))
        (unchanged x.identity y.identity) (unchanged x.user y.user))

    mam2_step : Step (mam2_answer c s.keys held) (mam2_answer d t.keys held)
    unfolding mam2_answer
    mam2_step =
        fine_alike _ _ _ _ (mam2_alike named s t alike m held same)
        (λ h. entry_alike _ _ _ _ _ _ (λ j. purpose_in (aes_enc (same j).enc (mam2_of m).iresponse))
        (unchanged x.identity y.identity) (unchanged x.user y.user))

  iam3_step : (held : Session) → named held.keyid ≡ true → Step (iam3_answer c s held) (iam3_answer d t held)
  unfolding iam3_answer area_of
  iam3_step held n =
      let same = whole held.keyid n in
      let custom = (iam3_of m).custom in
      let words : Key → List ℕ = λ k. words_in custom (opened_data k (iam3_of m) m) in
      let b = block_asked s.profiles custom in
      fine_alike _ _ _ _ (iam3_alike named s t alike m held same)
      (λ h.
      let r = iam3_right s held m h in
      let o = asked_open named s custom held.keyid n (permitted_present held.keyid custom.profile s.keys r)
      r (iam3_slot s held m h) (iam3_inside s held m h) in
      let block = block_alike named s t alike custom in
      entry_alike _ _ _ _ _ _ (λ j. purpose_in (aes_enc (same j).enc (sent_block m)))
      (subst (λ (l : List ℕ). SameChange x.identity y.identity
      (stored_in Identity b (words (key_with held.keyid s.keys)) x.identity) l)
      (λ j. stored_in Identity (block j) (words (same j)) y.identity)
      (stored_alike Identity b _ x.identity y.identity mem.identity_length
      (same_in_block named s x y mem Identity b o)))
      (subst (λ (l : List ℕ). SameChange x.user y.user
      (stored_in User b (words (key_with held.keyid s.keys)) x.user) l)
      (λ j. stored_in User (block j) (words (same j)) y.user)
      (stored_alike User b _ x.user y.user mem.user_length (same_in_block named s x y mem User b o))))

  module _ (first : ℕ) (rest : List ℕ) (e : m ≡ first ∷ rest) where
    second_named : (k : Kind) → kind_of first ≡ k → carries_keyid k ≡ true → length_fits k m ≡ true
        → named (byte_at m 1) ≡ true
    second_named k f h l = mine (byte_at m 1) (names_second m rest first k e f h l)

    tam1_step : kind_of first ≡ Tam1 → Step (tam1_answer c s.keys) (tam1_answer d t.keys)
    unfolding tam1_answer tam1_of carries_keyid
    tam1_step f =
        fine_alike _ _ _ _ (opening_alike named s t alike m Tam1 (tam1_of m).rfu (byte_at m 1))
        (λ h.
        let n = second_named Tam1 f refl (opening_length Tam1 _ _ s.keys m h) in
        reply_alike _ _ cleared (ap (λ (k : Key). tam1_reply k (tam1_of m) sent.draws) (whole (byte_at m 1) n))
        (cleared_named named))

    mam1_step : kind_of first ≡ Mam1 → Step (mam1_answer c s.keys) (mam1_answer d t.keys)
    unfolding mam1_answer mam1_of carries_keyid
    mam1_step f =
        fine_alike _ _ _ _ (opening_alike named s t alike m Mam1 (mam1_of m).rfu (byte_at m 1))
        (λ h.
        let n = second_named Mam1 f refl (opening_length Mam1 _ _ s.keys m h) in
        reply_alike _ _ _ (ap (λ (k : Key). mam1_reply k (mam1_of m) sent.draws) (whole (byte_at m 1) n)) (λ z. n))

    iam1_step : kind_of first ≡ Iam1 → Step (iam1_answer c s.keys) (iam1_answer d t.keys)
    unfolding iam1_answer iam1_of carries_keyid
    iam1_step f =
        fine_alike _ _ _ _ (opening_alike named s t alike m Iam1 (iam1_of m).rfu (byte_at m 1))
        (λ h. reply_alike _ _ _ refl (λ z. second_named Iam1 f refl (opening_length Iam1 _ _ s.keys m h)))

    tam2_named : kind_of first ≡ Tam2 → judged (tam2_checks s m) ≡ Ok tt → named (tam2_of m).keyid ≡ true
    unfolding tam2_of carries_keyid length_fits
    tam2_named f h = second_named Tam2 f refl (eq-eqb (length m) 15 (tam2_length_lem s m h))

    tam2_step : kind_of first ≡ Tam2 → Step (tam2_answer c s) (tam2_answer d t)
    unfolding tam2_answer
    tam2_step f =
        fine_alike _ _ _ _ (tam2_alike named s t alike m)
        (λ h.
        let n = tam2_named f h in
        let o = asked_open named s (tam2_of m).custom (tam2_of m).keyid n (tam2_key s m h) (tam2_right s m h)
        (tam2_slot s m h) (tam2_inside s m h) in
        let shown = window_alike named s x y mem (block_asked s.profiles (tam2_of m).custom) o
        ∙ ap (window_of y.identity y.user) (block_alike named s t alike (tam2_of m).custom) in
        reply_alike _ _ cleared (λ j. tam2_reply (whole (tam2_of m).keyid n j) (tam2_of m) (shown j) sent.draws)
        (cleared_named named))

    kind_step : (held : Session) → HeldNamed named held → (k : Kind) → kind_of first ≡ k → in_turn held.state k ≡ true
        → Step (by_kind c s held k) (by_kind d t held k)
    unfolding by_kind in_turn
    kind_step held h Tam1 f i = tam1_step f
    kind_step held h Tam2 f i = tam2_step f
    kind_step held h Iam1 f i = iam1_step f
    kind_step held h Iam2 f i = iam2_step held (whole held.keyid (h (iam_waits held.state i)))
    kind_step held h Iam3 f i = iam3_step held (h (iam_waits held.state i))
    kind_step held h Mam1 f i = mam1_step f
    kind_step held h Mam2 f i = mam2_step held (whole held.keyid (h (mam_waits held.state i)))
    kind_step held h Unsupported f i = to_initial NotSupported

  message_step : (held : Session) → HeldNamed named held → (l : List ℕ) → m ≡ l
      → Step (of_message c s held l) (of_message d t held l)
  unfolding of_message in_order
  message_step held h [] e = to_initial OtherError
  message_step held h (first ∷ rest) e =
      pick_alike (offered s.features (kind_of first)) _ _ _ _ _ (λ j. offered (alike.features j) (kind_of first))
      (λ o. pick_alike (in_turn held.state (kind_of first)) _ _ _ _ _ refl
      (λ i. kind_step first rest e held h (kind_of first) refl i) (to_initial OutOfTurn))
      (to_initial NotSupported)

  -- one call
  pub step_alike : (held : Session) → HeldNamed named held
      → Step (effect_of c (holding s held)) (effect_of d (holding t held))
  unfolding effect_of
  step_alike held h =
      subst (λ (w : Result Unit TagFault). Step (of_lending c s held v) (of_lending d t held w))
      (lending_alike named s t alike (length sent.draws) sent.room _ _ _ _ mem.identity_length
      mem.user_length)
      (judged_alike v)
    where
      v : Result Unit TagFault
      v = judged (lending_checks s.sizes (length sent.draws) sent.room (length x.identity)
          (length x.user))

      judged_alike : (z : Result Unit TagFault) → Step (of_lending c s held z) (of_lending d t held z)
      judged_alike (Ok tt) = message_step held h m refl
      judged_alike (Err f) = refusal f held h
