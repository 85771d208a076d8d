-- What a refusal and a reader that is let in leave behind.
use Rattle.std.specs.Prelude.{Result, Ok, Err}
use mathlib.Core.Path.{refl}
use mathlib.Core.List.{List}
use Prim.Native.Nat.{ℕ}
use Rattle.memory.specs.declared.Area.{Area}
use Rattle.memory.specs.declared.Area.TheVariants.{Identity, User}
use Rattle.offer.specs.declared.TagFault.{TagFault}
use Rattle.entry.specs.declared.Reacted.{Reacted}
use Rattle.entry.specs.Sessions.{cleared}
use Rattle.entry.specs.Given.{LetsIn, Writes}
use Rattle.entry.proofs.Giving.{Turned}
use Rattle.tag.specs.Answers.{Call, refused, let_in, if_fine}
use Rattle.tag.specs.Reactions.{Reacts, ReactsIn}

module _ (c : Call) (room : List ℕ) (r : Reacted) where
  reacts_refused : (f : TagFault) → Turned r f → Reacts (refused c f cleared) room r room
  unfolding refused
  reacts_refused f t = record { outcome = t.0; session = t.1; reply = refl }

  -- a refusal keeps both areas
  pub in_refused : (f : TagFault) → Turned r f → ReactsIn (refused c f cleared) room r room c.identity c.user
  unfolding refused
  in_refused f t = record { reacts = reacts_refused f t; identity = refl; user = refl }

  -- a reader that is let in, or is not
  pub reacts_let_in : (v : Result Unit TagFault) (purpose : ℕ) → LetsIn v purpose r
      → Reacts (if_fine c v (let_in c purpose c.identity c.user)) room r room
  unfolding if_fine let_in refused
  reacts_let_in (Ok tt) purpose h = record { outcome = h.outcome; session = h.session; reply = refl }
  reacts_let_in (Err f) purpose h = record { outcome = h.outcome; session = h.session; reply = refl }

  -- the same, with words that are written
  pub in_written : (v : Result Unit TagFault) (purpose : ℕ) (stored : Area → List ℕ → List ℕ) (i u : List ℕ)
      → Writes v purpose stored c.identity c.user r i u
      → ReactsIn (if_fine c v (let_in c purpose (stored Identity c.identity) (stored User c.user))) room r room i u
  unfolding if_fine let_in refused
  in_written (Ok tt) purpose stored i u h = record {
    reacts = record { outcome = h.lets_in.outcome; session = h.lets_in.session; reply = refl };
    identity = h.in_identity;
    user = h.in_user;
  }
  in_written (Err f) purpose stored i u h = record {
    reacts = record { outcome = h.lets_in.outcome; session = h.lets_in.session; reply = refl };
    identity = h.in_identity;
    user = h.in_user;
  }
