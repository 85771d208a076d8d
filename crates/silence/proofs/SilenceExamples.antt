-- Demand 3 is no empty promise: a bench with two clients' records, of which only the first is named. Whatever the keys
-- of the second are, and whatever its word holds, the tags are alike; and they answer.
use Rattle.std.specs.Prelude.{Ok}
use Rattle.offer.specs.declared.Answer.TheVariants.{Replied}
use mathlib.Core.Path.{◌≡◌, refl, sym, ap, ◌∙◌, subst}
use mathlib.Core.Bool.{Bool, true, false, false≢true}
use mathlib.Core.List.{List, [], ◌∷◌}
use Prim.Native.Nat.{ℕ, zero, suc, ◌<◌}
use native.Mathlib.Omega.{arith}
use lib.Dec.{eqb}
use lib.ListN.{get_or, replicate}
use borrow.Author.Tests.{eqb-true}
use Rattle.ground.specs.Choice.{either}
use Rattle.memory.specs.declared.Area.TheVariants.{User}
use Rattle.memory.specs.Address.{profile_end}
use Rattle.memory.specs.Rights.{permitted}
use Rattle.sheet.specs.declared.Features.{Features}
use Rattle.sheet.specs.declared.Key.{Key}
use Rattle.sheet.specs.declared.Slot.{Slot}
use Rattle.sheet.specs.Setups.{Setup}
use Rattle.sheet.specs.Setups.{no_slot, no_lock}
use Rattle.frames.specs.Kinds.{kind_of, iam_kind}
use Rattle.frames.specs.Lengths.{length_fits}
use Rattle.frames.specs.Messages.{iam1_of}
use Rattle.entry.specs.declared.State.TheVariants.{IamInit}
use Rattle.ground.specs.Checks.{judged_to}
use Rattle.entry.specs.Sessions.{cleared}
use Rattle.tag.specs.States.{holding, at_rest, in_turn, powered_up}
use Rattle.keytable.specs.Named.{has_key, key_with}
use Rattle.offer.specs.Records.{offered, slot_named}
use Rattle.offer.specs.Judged.{lending_checks, opening_checks}
use Rattle.tag.specs.Answers.{replied, if_fine, iam1_answer, by_kind, in_order, of_message, effect_of}
use Rattle.tag.specs.Runs.{Event, Message, answer_to, run}
use Rattle.silence.specs.Names.{carries_keyid, named_by, named_in}
use Rattle.silence.specs.Silence.{RecordsAlike, SetupsAlike, Memory, MemoriesAlike, SameAnswers, word_of, answers}
use Rattle.silence.proofs.Silence.{silent}

-- ---- the tag: record 1 may use profile 0, which is word 0 of the user area; record 2 may use profile 1, word 1

abbrev features : Features
features = record {
  blocksize1 = true;
  rev0 = false;
  rev1 = true;
  iam = true;
  iam3 = true;
  mam = true;
  mode0 =
      true;
  mode1 = true;
  mode2 = true;
  mode3 = true;
}

-- the first client's record, and the second's
abbrev pub ours : List ℕ → Key
ours enc = record { id = 1; mac = false; mpi = 1; enc = enc; mackey = replicate 16 0 }

abbrev pub theirs : List ℕ → List ℕ → Key
theirs enc mackey = record { id = 2; mac = true; mpi = 2; enc = enc; mackey = mackey }

-- a profile of one word of the user area
abbrev one_word : ℕ → Slot
one_word base = record { present = true; profile = record { area = User; base = record { 0 = base }; words = 1 } }

unfoldable pub carrying : Key → Key → Setup
carrying k l = record {
  features = features;
  sizes = record { identity = 0; user = 2 };
  keys = k ∷ l ∷ [];
  profiles = one_word 0 ∷ one_word 1 ∷ replicate 14 no_slot;
  locks = record { count = 0; table = replicate 16 no_lock };
}

-- the second client's word
abbrev pub keeping : ℕ → ℕ → Memory
keeping a b = record { identity = []; user = 1 ∷ 2 ∷ a ∷ b ∷ [] }

empty_slot : (n i : ℕ) → get_or (replicate n no_slot) i no_slot ≡ no_slot
empty_slot zero i = refl
empty_slot (suc n) zero = refl
empty_slot (suc n) (suc i) = empty_slot n i

-- ---- they are alike

module _ (named : ℕ → Bool) (unnamed : named 2 ≡ false) (enc : List ℕ) where
  -- whatever the second client's keys are
  pub keys_hidden : (e e' m m' : List ℕ) → SetupsAlike named (carrying (ours enc) (theirs e m))
      (carrying (ours enc) (theirs e' m'))
  unfolding carrying RecordsAlike
  keys_hidden e e' m m' = record {
    features = refl;
    sizes = refl;
    records = (
      record { id = refl; mac = refl; mpi = refl; enc = λ h. refl; mackey = λ h. refl },
      (
        record {
          id = refl;
          mac = refl;
          mpi = refl;
          enc = λ h. absurd (false≢true (sym unnamed ∙ h));
          mackey =
              λ h. absurd (false≢true (sym unnamed ∙ h));
        },
        tt,
      ),
    );
    profiles = refl;
    locks = refl;
  }

  module _ (l : Key) (its : l.id ≡ 2) where
    abbrev setup : Setup
    setup = carrying (ours enc) l

    -- a named record is the first
    first_only_lem : (keyid : ℕ) → named keyid ≡ true → has_key keyid setup.keys ≡ true → keyid ≡ 1
    unfolding carrying has_key
    first_only_lem keyid n h = tested (eqb 1 keyid) refl (eqb l.id keyid) refl h
      where
        tested : (b : Bool) → eqb 1 keyid ≡ b → (d : Bool) → eqb l.id keyid ≡ d → either b (either d false) ≡ true
            → keyid ≡ 1
        tested true p d q g = sym (eqb-true 1 keyid p)
        tested false p true q g =
            let two : 2 ≡ keyid = sym its ∙ eqb-true l.id keyid q in
            absurd (false≢true (sym unnamed ∙ ap named two ∙ n))
        tested false p false q g = absurd (false≢true g)

    -- so only word 0 of the user area is open
    word_zero : (w p : ℕ) → permitted (key_with 1 setup.keys).mpi p ≡ true
        → (slot_named setup.profiles p).present ≡ true → w < profile_end (slot_named setup.profiles p).profile
        → w ≡ 0
    unfolding carrying key_with slot_named permitted profile_end no_slot
    word_zero w zero r h b = omega arith
    word_zero w (suc zero) r h b = absurd (false≢true r)
    word_zero w (suc (suc p)) r h b = absurd (false≢true (ap (λ (s : Slot). s.present) (sym (empty_slot 14 p)) ∙ h))

    -- whatever the second client's word holds
    pub word_hidden : (a b a' b' : ℕ) → MemoriesAlike named setup (keeping a b) (keeping a' b')
    word_hidden a b a' b' = record {
      identity_length = refl;
      user_length = refl;
      identity = λ w o. refl;
      user = λ w o.
          (let one = first_only_lem o.keyid o.name o.key in
          let z = word_zero w o.profile (subst (λ (k : ℕ). permitted (key_with k setup.keys).mpi o.profile ≡
          true) one o.right) o.present o.before in
          subst (λ (k : ℕ). word_of (keeping a b).user k ≡ word_of (keeping a' b').user k) (sym z) refl);
    }

-- ---- and they answer: IAM1 in the name of record 1

abbrev ten : List ℕ
ten = 1 ∷ 2 ∷ 3 ∷ 4 ∷ 5 ∷ 6 ∷ 7 ∷ 8 ∷ 9 ∷ 10 ∷ []

abbrev asked : List Event
asked = Message (record { message = 0x40 ∷ 1 ∷ []; draws = ten; room = 172 }) ∷ []

pub not_named : named_in asked 2 ≡ false
unfolding named_in named_by carries_keyid kind_of iam_kind
not_named = refl

pub answered : (enc : List ℕ) (l : Key) (a b : ℕ) → answers (carrying (ours enc) l) (keeping a b) asked
    ≡ record {
      outcome = Ok (Replied 10);
      tag = holding (carrying (ours enc) l)
          (record { state = IamInit; keyid = 1; tchallenge = ten; ichallenge = replicate 4 0 });
      reply = ten;
      identity = [];
      user = 1 ∷ 2 ∷ a ∷ b ∷ [];
    } ∷ []
unfolding run answer_to powered_up effect_of lending_checks judged_to of_message in_order kind_of iam_kind offered
    in_turn at_rest cleared by_kind iam1_answer iam1_of opening_checks length_fits has_key carrying if_fine replied
answered enc l a b = refl

-- Two tags that differ in every key byte of the second client's record, and in its word, and answer alike.
pub told_apart_by_nothing : (enc : List ℕ) → SameAnswers (keeping 3 4) (keeping 5 6)
    (answers (carrying (ours enc) (theirs (replicate 16 7) (replicate 16 8))) (keeping 3 4) asked)
    (answers (carrying (ours enc) (theirs (replicate 16 9) (replicate 16 10))) (keeping 5 6) asked)
told_apart_by_nothing enc =
    silent asked _ _ (keeping 3 4) (keeping 5 6)
    (keys_hidden (named_in asked) not_named enc (replicate 16 7) (replicate 16 9) (replicate 16 8) (replicate 16 10))
    (word_hidden (named_in asked) not_named enc (theirs (replicate 16 7) (replicate 16 8)) refl 3 4 5 6)
