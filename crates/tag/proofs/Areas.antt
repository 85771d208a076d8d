-- Only an IAM3 changes an area, and only bytes of the block that it addresses, in the area that the block is in.
use mathlib.Core.Path.{◌≡◌, refl, ap}
use mathlib.Core.Bool.{false}
use mathlib.Core.List.{List, ◌∷◌}
use mathlib.Core.Logic.{◌⊎◌, inl, inr}
use Prim.Native.Nat.{ℕ, ◌+◌, ◌≤◌, ◌<◌}
use native.Mathlib.Omega.{arith}
use lib.ListN.{length, get_or}
use Rattle.memory.specs.declared.Block.{Block}
use Rattle.memory.specs.declared.Area.TheVariants.{Identity, User}
use Rattle.memory.specs.Address.{same_area}
use Rattle.memory.specs.Areas.{stored_in, first_byte, byte_count}
use Rattle.memory.specs.declared.Area.{Area}
use Rattle.memory.proofs.Stores.{stored_outside, stored_elsewhere, stored_length}
use Rattle.frames.specs.declared.Kind.{Kind}
use Rattle.frames.specs.declared.Kind.TheVariants.{Tam1, Tam2, Iam1, Iam2, Iam3, Mam1, Mam2, Unsupported}
use Rattle.frames.specs.Kinds.{kind_of}
use Rattle.frames.specs.Messages.{iam3_of}
use Rattle.sheet.specs.Setups.{Setup}
use Rattle.offer.specs.declared.TagFault.{TagFault}
use Rattle.entry.specs.declared.Session.{Session}
use Rattle.tag.specs.States.{KeyedTag}
use Rattle.offer.specs.declared.TagFault.TheVariants.{NotSupported}
use Rattle.entry.specs.Sessions.{cleared}
use Rattle.offer.specs.Records.{block_asked}
use Rattle.tag.specs.Answers.{Effect, Call, refused, replied, let_in, tam1_answer, tam2_answer, iam1_answer}
use Rattle.tag.specs.Answers.{iam2_answer, iam3_answer, mam1_answer, mam2_answer, by_kind, effect_of}
use Rattle.tag.proofs.Cases.{fine_case, effect_case}

-- A byte of an area that is none of the block's: the block is in the other area, or the byte lies before it or behind
-- it.
abbrev pub Outside : Area → Block → ℕ → Type 0
Outside area b i = (same_area area b.area ≡ false) ⊎ ((i < first_byte b) ⊎ (first_byte b + byte_count b ≤ i))

-- Both areas are as they were.
pub record Still (c : Call) (e : Effect) : Type 0 where
  pub identity : e.identity ≡ c.identity
  pub user : e.user ≡ c.user

-- Every byte but those of the addressed block is as it was, in both areas, and none is added or lost.
pub record Elsewhere (c : Call) (tag : KeyedTag) (e : Effect) : Type 0 where
  pub identity : (i : ℕ) → Outside Identity (block_asked tag.setup.profiles (iam3_of c.message).custom) i
      → get_or e.identity i 0 ≡ get_or c.identity i 0
  pub user : (i : ℕ) → Outside User (block_asked tag.setup.profiles (iam3_of c.message).custom) i
      → get_or e.user i 0 ≡ get_or c.user i 0
  pub identity_length : length e.identity ≡ length c.identity
  pub user_length : length e.user ≡ length c.user

-- a store changes no such byte
stored_apart : (area : Area) (b : Block) (bytes s : List ℕ) (i : ℕ) → Outside area b i
    → get_or (stored_in area b bytes s) i 0 ≡ get_or s i 0
stored_apart area b bytes s i (inl e) = ap (λ (l : List ℕ). get_or l i 0) (stored_elsewhere area b bytes s e)
stored_apart area b bytes s i (inr o) = stored_outside area b bytes s i o

module _ (c : Call) where
  refusal_still : (f : TagFault) (s : Session) → Still c (refused c f s)
  unfolding refused
  refusal_still f s = record { identity = refl; user = refl }

  pub kind_still : (setup : Setup) (held : Session) (k : Kind) → (k ≡ Iam3 → ⊥) → Still c (by_kind c setup held k)
  unfolding by_kind tam1_answer tam2_answer iam1_answer iam2_answer mam1_answer mam2_answer replied let_in
  kind_still setup held Tam1 h =
      fine_case c (Still c) (λ f. refusal_still f cleared) _ _ (record { identity = refl; user = refl })
  kind_still setup held Tam2 h =
      fine_case c (Still c) (λ f. refusal_still f cleared) _ _ (record { identity = refl; user = refl })
  kind_still setup held Iam1 h =
      fine_case c (Still c) (λ f. refusal_still f cleared) _ _ (record { identity = refl; user = refl })
  kind_still setup held Iam2 h =
      fine_case c (Still c) (λ f. refusal_still f cleared) _ _ (record { identity = refl; user = refl })
  kind_still setup held Iam3 h = absurd (h refl)
  kind_still setup held Mam1 h =
      fine_case c (Still c) (λ f. refusal_still f cleared) _ _ (record { identity = refl; user = refl })
  kind_still setup held Mam2 h =
      fine_case c (Still c) (λ f. refusal_still f cleared) _ _ (record { identity = refl; user = refl })
  kind_still setup held Unsupported h = refusal_still NotSupported cleared

  -- a message that is no IAM3 changes no area
  pub still : (tag : KeyedTag) → ((first : ℕ) (rest : List ℕ) → c.message ≡ first ∷ rest → kind_of first ≡ Iam3 → ⊥)
      → Still c (effect_of c tag)
  still tag h =
      effect_case c (Still c) (λ f. refusal_still f cleared) tag (λ f. refusal_still f tag.session)
      (λ first rest e o t. kind_still tag.setup tag.session (kind_of first) (h first rest e))

  still_elsewhere : (tag : KeyedTag) (e : Effect) → Still c e → Elsewhere c tag e
  still_elsewhere tag e s = record {
    identity = λ i o. ap (λ (l : List ℕ). get_or l i 0) s.identity;
    user = λ i o. ap (λ (l : List ℕ). get_or l i 0) s.user;
    identity_length = ap length s.identity;
    user_length = ap length s.user;
  }

  iam3_elsewhere : (tag : KeyedTag) → Elsewhere c tag (iam3_answer c tag.setup tag.session)
  unfolding iam3_answer let_in
  iam3_elsewhere tag =
      fine_case c (Elsewhere c tag) (λ f. still_elsewhere tag (refused c f cleared) (refusal_still f cleared)) _ _
      (record {
        identity = λ i o. stored_apart Identity _ _ _ i o;
        user = λ i o. stored_apart User _ _ _ i o;
        identity_length = stored_length Identity _ _ _;
        user_length = stored_length User _ _ _;
      })

  kind_elsewhere : (tag : KeyedTag) (k : Kind) → Elsewhere c tag (by_kind c tag.setup tag.session k)
  unfolding by_kind
  kind_elsewhere tag Iam3 = iam3_elsewhere tag
  kind_elsewhere tag Tam1 =
      still_elsewhere tag _
      (kind_still tag.setup tag.session Tam1 (λ e. (let z : ◌≡◌ {A = ℕ} 0 1 = cc in omega arith)))
  kind_elsewhere tag Tam2 =
      still_elsewhere tag _
      (kind_still tag.setup tag.session Tam2 (λ e. (let z : ◌≡◌ {A = ℕ} 0 1 = cc in omega arith)))
  kind_elsewhere tag Iam1 =
      still_elsewhere tag _
      (kind_still tag.setup tag.session Iam1 (λ e. (let z : ◌≡◌ {A = ℕ} 0 1 = cc in omega arith)))
  kind_elsewhere tag Iam2 =
      still_elsewhere tag _
      (kind_still tag.setup tag.session Iam2 (λ e. (let z : ◌≡◌ {A = ℕ} 0 1 = cc in omega arith)))
  kind_elsewhere tag Mam1 =
      still_elsewhere tag _
      (kind_still tag.setup tag.session Mam1 (λ e. (let z : ◌≡◌ {A = ℕ} 0 1 = cc in omega arith)))
  kind_elsewhere tag Mam2 =
      still_elsewhere tag _
      (kind_still tag.setup tag.session Mam2 (λ e. (let z : ◌≡◌ {A = ℕ} 0 1 = cc in omega arith)))
  kind_elsewhere tag Unsupported =
      still_elsewhere tag _
      (kind_still tag.setup tag.session Unsupported (λ e. (let z : ◌≡◌ {A = ℕ} 0 1 = cc in omega arith)))

  -- whatever the message, every byte outside the addressed block stays
  pub elsewhere : (tag : KeyedTag) → Elsewhere c tag (effect_of c tag)
  elsewhere tag =
      effect_case c (Elsewhere c tag) (λ f. still_elsewhere tag (refused c f cleared) (refusal_still f cleared)) tag
      (λ f. still_elsewhere tag (refused c f tag.session) (refusal_still f tag.session))
      (λ first rest e o t. kind_elsewhere tag (kind_of first))
