-- Two setups that are alike judge a message alike; where a key is asked for its proof, the record must be named.
use Rattle.std.specs.Prelude.{Ok}
use mathlib.Core.Path.{◌≡◌, refl, ap}
use mathlib.Core.Bool.{Bool, true, false, not}
use mathlib.Core.List.{List, [], ◌∷◌}
use Prim.Native.Nat.{ℕ, ◌*◌, ◌/◌, ◌%◌, ◌^◌}
use native.Mathlib.Omega.{arith}
use native.Mathlib.Nat.{zero-div}
use lib.Dec.{eqb, leb}
use lib.ListN.{get_or}
use borrow.Author.Tests.{eqb-true, not-true}
use Rattle.ground.specs.Choice.{both, either, implies, pick}
use Rattle.aes.specs.AesEnc.{aes_enc}
use Rattle.memory.specs.Address.{overruns}
use Rattle.memory.specs.Rights.{permitted, some_locked}
use Rattle.sheet.specs.declared.Key.{Key}
use Rattle.sheet.specs.declared.Slot.{Slot}
use Rattle.sheet.specs.Setups.{Setup, no_slot}
use Rattle.keytable.specs.Named.{no_key}
use Rattle.frames.specs.declared.Kind.{Kind}
use Rattle.frames.specs.declared.Kind.TheVariants.{Tam2, Iam2, Iam3, Mam2}
use Rattle.frames.specs.declared.Custom.{Custom}
use Rattle.frames.specs.Asked.{block_asked as words_asked}
use Rattle.frames.specs.Constants.{c_iam2}
use Rattle.frames.specs.Messages.{tam2_of, iam2_of, iam3_of, mam2_of}
use Rattle.frames.specs.Lengths.{length_fits, reply_room}
use Rattle.frames.specs.Modes.{has_mac, in_mode, prot_mode_of}
use Rattle.frames.specs.declared.ProtMode.{ProtMode}
use Rattle.frames.proofs.Range.{both_right}
use Rattle.offer.specs.declared.TagFault.TheVariants.{
  OtherError,
  NotSupported,
  MemoryOverrun,
  MemoryWriteError,
  ProofWrong,
  BenchFault,
}
use Rattle.entry.specs.declared.Session.{Session}
use Rattle.ground.specs.Checks.{◌else◌}
use Rattle.offer.specs.Checks.{judged}
use Rattle.keytable.specs.Named.{has_key, key_with}
use Rattle.offer.specs.Records.{size_offered, rev_offered, mode_offered, mode_served, mode_supported, slot_named}
use Rattle.offer.specs.Records.{block_asked}
use Rattle.entry.specs.Opened.{iam_proof, mam_proof, iam3_proof}
use Rattle.offer.specs.Judged.{draw_bytes, lending_checks, opening_checks}
use Rattle.tam.specs.Judged.{tam2_checks}
use Rattle.entry.specs.Judged.{iam2_checks, iam3_checks, mam2_checks}
use Rattle.offer.proofs.Lines.{first_holds, others_hold}
use Rattle.silence.specs.Silence.{SetupsAlike}
use Rattle.silence.proofs.SilenceRecords.{Found, found}

module _ (named : ℕ → Bool) (s t : Setup) (alike : SetupsAlike named s t) where
  pub finds : (keyid : ℕ) → Found named keyid s.keys t.keys
  finds keyid = found named keyid s.keys t.keys alike.records

  slot_alike : (p : ℕ) → slot_named s.profiles p ≡ slot_named t.profiles p
  unfolding slot_named
  slot_alike p = ap (λ (ps : List Slot). get_or ps p no_slot) alike.profiles

  pub block_alike : (c : Custom) → block_asked s.profiles c ≡ block_asked t.profiles c
  unfolding block_asked
  block_alike c j = words_asked (slot_alike c.profile j).profile c

  mode_alike : (keyid p : ℕ) → mode_supported s.features (key_with keyid s.keys) p ≡ mode_supported t.features
      (key_with keyid t.keys) p
  unfolding mode_supported mode_served
  mode_alike keyid p j = in_mode (prot_mode_of p)
      (λ (mode : ProtMode). both (mode_offered (alike.features j) mode) (implies (has_mac mode) ((finds keyid).mac j)))
      false

  pub lending_alike : (draws room i u j v : ℕ) → i ≡ j → u ≡ v
      → judged (lending_checks s.sizes draws room i u) ≡ judged (lending_checks t.sizes draws room j v)
  unfolding lending_checks
  lending_alike draws room i u j v e f k = judged
      ((eqb draws draw_bytes else BenchFault)
      ∷ (leb reply_room room else BenchFault)
      ∷ (eqb (e k) ((alike.sizes k).identity * 2) else BenchFault)
      ∷ (eqb (f k) ((alike.sizes k).user * 2) else BenchFault)
      ∷ [])

  module _ (m : List ℕ) where
    pub opening_alike : (kind : Kind) (rfu keyid : ℕ)
        → judged (opening_checks kind rfu keyid s.keys m) ≡ judged (opening_checks kind rfu keyid t.keys m)
    unfolding opening_checks
    opening_alike kind rfu keyid j =
        judged ((length_fits kind m else OtherError) ∷ (eqb rfu 0 else NotSupported) ∷
        ((finds keyid).present j else NotSupported) ∷ [])

    pub tam2_alike : judged (tam2_checks s m) ≡ judged (tam2_checks t m)
    unfolding tam2_checks
    tam2_alike j =
        let f = tam2_of m in
        judged
        ((length_fits Tam2 m else OtherError)
        ∷ (size_offered (alike.features j) f.custom.blocksize else NotSupported)
        ∷ (rev_offered (alike.features j) f.rev else NotSupported)
        ∷ (eqb f.rfu 0 else NotSupported)
        ∷ ((finds f.keyid).present j else NotSupported)
        ∷ ((slot_alike f.custom.profile j).present else NotSupported)
        ∷ (permitted ((finds f.keyid).mpi j) f.custom.profile else NotSupported)
        ∷ (not (overruns (slot_alike f.custom.profile j).profile (block_alike f.custom j)) else MemoryOverrun)
        ∷ (mode_alike f.keyid f.protmode j else NotSupported)
        ∷ [])

    module _ (held : Session) (same : key_with held.keyid s.keys ≡ key_with held.keyid t.keys) where
      pub iam2_alike : judged (iam2_checks s.keys held m) ≡ judged (iam2_checks t.keys held m)
      unfolding iam2_checks
      iam2_alike j = judged
          ((length_fits Iam2 m else OtherError)
          ∷ (eqb (iam2_of m).rfu 0 else NotSupported)
          ∷ (iam_proof c_iam2 held (aes_enc (same j).enc (iam2_of m).iresponse) else ProofWrong)
          ∷ [])

      pub mam2_alike : judged (mam2_checks s.keys held m) ≡ judged (mam2_checks t.keys held m)
      unfolding mam2_checks
      mam2_alike j = judged
          ((length_fits Mam2 m else OtherError)
          ∷ (eqb (mam2_of m).rfu 0 else NotSupported)
          ∷ (mam_proof held (aes_enc (same j).enc (mam2_of m).iresponse) else ProofWrong)
          ∷ [])

      pub iam3_alike : judged (iam3_checks s held m) ≡ judged (iam3_checks t held m)
      unfolding iam3_checks
      iam3_alike j =
          let f = iam3_of m in
          judged
          ((length_fits Iam3 m else OtherError)
          ∷ (mode_supported (alike.features j) (same j) f.protmode else NotSupported)
          ∷ (eqb f.rfu 0 else NotSupported)
          ∷ ((slot_alike f.custom.profile j).present else NotSupported)
          ∷ (permitted (same j).mpi f.custom.profile else NotSupported)
          ∷ (both (size_offered (alike.features j) f.custom.blocksize)
          (not (overruns (slot_alike f.custom.profile j).profile (block_alike f.custom j))) else
          MemoryOverrun)
          ∷ (not (some_locked (alike.locks j).table (alike.locks j).count (block_alike f.custom j)) else
          MemoryWriteError)
          ∷ (iam3_proof (same j) held f m else ProofWrong)
          ∷ [])

-- ---- what is known of a message that passed

-- an MPI of zero permits nothing, so a record with a right is there
none_permitted : (p : ℕ) → permitted 0 p ≡ true → ⊥
unfolding permitted
none_permitted p h =
    let z : 0 / 2 ^ p ≡ 0 = zero-div (2 ^ p) in
    let e = eqb-true (0 / 2 ^ p % 2) 1 h in
    omega arith

pub permitted_present : (keyid p : ℕ) (ks : List Key) → permitted (key_with keyid ks).mpi p ≡ true
    → has_key keyid ks ≡ true
unfolding has_key key_with no_key
permitted_present keyid p [] h = absurd (none_permitted p h)
permitted_present keyid p (k ∷ ks) h = tested (eqb k.id keyid) h (λ g. permitted_present keyid p ks g)
  where
    tested : (b : Bool) → permitted (pick b k (key_with keyid ks)).mpi p ≡ true
        → (permitted (key_with keyid ks).mpi p ≡ true → has_key keyid ks ≡ true)
        → either b (has_key keyid ks) ≡ true
    tested true g more = refl
    tested false g more = more g

module _ (setup : Setup) (m : List ℕ) (h : judged (tam2_checks setup m) ≡ Ok tt) where
  pub tam2_slot : (slot_named setup.profiles (tam2_of m).custom.profile).present ≡ true
  unfolding tam2_checks
  tam2_slot =
      let k = others_hold _ _ (others_hold _ _ (others_hold _ _ (others_hold _ _ h))) in
      first_holds _ _ (others_hold _ _ k)

  pub tam2_right : permitted (key_with (tam2_of m).keyid setup.keys).mpi (tam2_of m).custom.profile ≡ true
  unfolding tam2_checks
  tam2_right =
      let k = others_hold _ _ (others_hold _ _ (others_hold _ _ (others_hold _ _ h))) in
      first_holds _ _ (others_hold _ _ (others_hold _ _ k))

module _ (setup : Setup) (held : Session) (m : List ℕ) (h : judged (iam3_checks setup held m) ≡ Ok tt) where
  pub iam3_slot : (slot_named setup.profiles (iam3_of m).custom.profile).present ≡ true
  unfolding iam3_checks
  iam3_slot = first_holds _ _ (others_hold _ _ (others_hold _ _ (others_hold _ _ h)))

  pub iam3_right : permitted (key_with held.keyid setup.keys).mpi (iam3_of m).custom.profile ≡ true
  unfolding iam3_checks
  iam3_right = first_holds _ _ (others_hold _ _ (others_hold _ _ (others_hold _ _ (others_hold _ _ h))))

  pub iam3_inside : overruns (slot_named setup.profiles (iam3_of m).custom.profile).profile
      (block_asked setup.profiles (iam3_of m).custom) ≡ false
  unfolding iam3_checks
  iam3_inside =
      let k = others_hold _ _ (others_hold _ _ (others_hold _ _ (others_hold _ _ h))) in
      not-true _ (both_right (size_offered setup.features (iam3_of m).custom.blocksize) _
      (first_holds _ _ (others_hold _ _ k)))
