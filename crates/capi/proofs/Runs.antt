-- A run of calls over an image is the tag's own run.
use mathlib.Core.Path.{◌≡◌, refl, sym, ap, ap₂, ◌∙◌, subst}
use mathlib.Core.Bool.{Bool, true}
use mathlib.Core.List.{List, [], ◌∷◌}
use Prim.Native.Nat.{ℕ}
use Rattle.ground.specs.Bytes.{Bytes}
use Rattle.ground.specs.Choice.{pick}
use Rattle.ground.specs.Clauses.{Says}
use Rattle.modes.specs.Room.{over}
use Rattle.sheet.specs.declared.Terms.{Terms}
use Rattle.sheet.specs.KeyTable.{key_table}
use Rattle.sheet.specs.Limits.{key_limit}
use Rattle.sheet.specs.Sheet.{read_of, said_of, Accepted, terms_read, keys_read}
use Rattle.offer.specs.Outcomes.{number_given, reply_length}
use Rattle.entry.specs.declared.Session.{Session}
use Rattle.entry.specs.Sessions.{cleared}
use Rattle.tag.specs.Answers.{Answer, Call, answer_of}
use Rattle.tag.specs.Plays.{Brought, Doing, Step, Wake, LeftWith, OneByOne, events_of, left_of, left_all}
use Rattle.tag.specs.Reactions.{lent}
use Rattle.tag.specs.Runs.{PowerUp, answer_to, run}
use Rattle.tag.specs.States.{KeyedTag, holding, keyed, powered_up}
use Rattle.tag.proofs.Holding.{Holds, holds_fits, powered_up_holds, answer_holds}
use Rattle.image.specs.Image.{kept, tag_image, keyed_in, is_tag}
use Rattle.image.specs.Kept.{accepts, sheet_image, Fits}
use Rattle.image.proofs.ReadBack.{kept_again, tag_back, table_back, is_tag_back}
use Rattle.image.proofs.Said.{said_fits, said_image}
use Rattle.image.proofs.Sessions.{cleared_fits, answer_fits}
use Rattle.capi.specs.Kept.{SetUp, PoweredUp, purpose_given, answer_in}
use Rattle.capi.specs.Run.{Told, Sends, Wakes, CallsAll, told_of}
use Rattle.capi.proofs.Keeps.{answer_of_lem}
use Rattle.capi.proofs.kept.roualint_message.Reads as message
use Rattle.capi.proofs.kept.roualint_message.Kinds as message-kinds
use Rattle.capi.proofs.kept.roualint_power_up.Reads as power-up
use Rattle.capi.proofs.kept.roualint_power_up.Kinds as power-up-kinds

-- A call, as the run has it, is the contract that the checker reads from the source of `roualint_message`.
pub send_is_message : Says 8 message-kinds.ps message-kinds.r message.Post
    (λ κs a r e. Sends a.0.now a.1.1.1.1.0.now a.1.1.1.1.1.0.now
    (record { message = a.1.0.now; draws = a.1.1.0.now; room = a.1.1.1.0.now })
    (record {
      stepped = record {
        number = r;
        long = e.1.1.1.1.1.1.0.now;
        purpose = e.1.1.1.1.1.1.1.0.now;
        image = e.0.now;
      };
      room = e.1.1.1.0.now;
      identity = e.1.1.1.1.0.now;
      user = e.1.1.1.1.1.0.now;
    }))
send_is_message κs a r e = refl

-- So is a power-up that of `roualint_power_up`.
pub wake_is_power_up : Says 1 power-up-kinds.ps power-up-kinds.r power-up.Post
    (λ κs a r e. PoweredUp a.0.now r e.0.now)
wake_is_power_up κs a r e = refl

module _ (sheet : List ℕ) (y : Bytes sheet) (e : Accepted key_limit sheet) where
  abbrev terms : Terms
  terms = terms_read (read_of key_limit sheet)

  abbrev table : List ℕ
  table = key_table sheet (keys_read (read_of key_limit sheet))

  abbrev pub tag_of : Session → KeyedTag
  tag_of s = holding (said_of key_limit sheet) s

  awake_holds : Holds (said_of key_limit sheet).keys cleared
  unfolding powered_up
  awake_holds = powered_up_holds (said_of key_limit sheet)

  module _ (s : Session) (w : Fits s) (k : Holds (said_of key_limit sheet).keys s) where
    abbrev image : List ℕ
    image = sheet_image s sheet

    pub tag_there : is_tag image ≡ true
    unfolding said_of
    tag_there =
        is_tag_back s w terms table (said_fits sheet y e) (holds_fits (said_of key_limit sheet).keys s k)

    pub said_back : tag_of s ≡ keyed_in image
    unfolding said_of
    said_back =
        let h = said_fits sheet y e in
        sym (λ i. keyed (tag_back s w terms table h i) (table_back s w terms table h i))

    answered : (c : Call) → answer_in image c ≡ answer_of c (tag_of s)
    answered c = answer_of_lem image tag_there (tag_of s) said_back c

    -- what one call leaves
    sent : (identity user : List ℕ) (b : Brought) (z : LeftWith Told) → Sends image identity user b z
        → z ≡ left_of told_of (Step b) (answer_of (lent b.message b.draws b.room identity user) (tag_of s))
    sent identity user b z h =
        let c = lent b.message b.draws b.room identity user in
        let a = answer_of c (tag_of s) in
        let g = answered c in
        let n : z.stepped.image ≡ tag_image a.tag
        = h.holds
        ∙ ap₂ (λ (t : Bool) (d : Answer). pick t (kept d.tag.session image) image) tag_there g
        ∙ kept_again terms table a.tag.session s (answer_fits c (tag_of s) w) w
        ∙ said_image sheet y e a.tag.session in
        λ j. record {
          stepped = record {
            number = (h.number ∙ ap (λ (d : Answer). number_given d.outcome) g) j;
            long = (h.long ∙ ap (λ (d : Answer). reply_length d.outcome) g) j;
            purpose = (h.given ∙ ap (λ (d : Answer). purpose_given d.outcome) g) j;
            image = n j;
          };
          room = (h.sent ∙ ap (λ (d : Answer). over d.reply b.room) g) j;
          identity = (h.identity ∙ ap (λ (d : Answer). d.identity) g) j;
          user = (h.user ∙ ap (λ (d : Answer). d.user) g) j;
        }

    -- what a power-up leaves: what `roualint_sheet` makes
    pub power_back : (r : ℕ) (after : List ℕ) → PoweredUp image r after → after ≡ sheet_image cleared sheet
    power_back r after h =
        h.holds
        ∙ ap (λ (b : Bool). pick b (kept cleared image) image) tag_there
        ∙ kept_again terms table cleared s cleared_fits w

    -- as one call of a run
    woken : (identity user : List ℕ) (z : LeftWith Told) → Wakes image identity user z
        → z ≡ left_of told_of Wake (answer_to (tag_of s) identity user PowerUp)
    unfolding answer_to powered_up
    woken identity user z h =
        λ j. record {
          stepped = record {
            number = (h.wakes.number ∙ ap (λ (t : Bool). pick t 0 7) tag_there) j;
            long = h.long j;
            purpose = h.purpose j;
            image =
                (power_back z.stepped.number z.stepped.image h.wakes ∙ said_image sheet y e cleared) j;
          };
          room = h.room j;
          identity = h.identity j;
          user = h.user j;
        }

  -- what `roualint_sheet` makes of an accepted sheet, whatever the image was
  pub sheet_made : (image : List ℕ) (r at : ℕ) (after : List ℕ) → SetUp sheet image r at after
      → after ≡ sheet_image cleared sheet
  sheet_made image r at after h =
      h.holds ∙ ap (λ (b : Bool). pick b (sheet_image cleared sheet) image) (ap accepts e)

  -- the image of the tag that holds this is the sheet's
  go_on : (s : Session) (identity user : List ℕ) (ds : List Doing) (zs : List (LeftWith Told))
      → CallsAll (tag_image (tag_of s)) identity user ds zs → CallsAll (sheet_image s sheet) identity user ds zs
  go_on s identity user ds zs =
      subst (λ (i : List ℕ). CallsAll i identity user ds zs) (sym (said_image sheet y e s))

  -- what a run leaves
  pub all_called : (ds : List Doing) (zs : List (LeftWith Told)) (s : Session) (w : Fits s)
      (k : Holds (said_of key_limit sheet).keys s) (identity user : List ℕ)
      → CallsAll (sheet_image s sheet) identity user ds zs
      → zs ≡ left_all told_of ds (run (tag_of s) identity user (events_of ds))
  unfolding OneByOne left_all run answer_to powered_up events_of
  all_called [] [] s w k identity user h = refl
  all_called [] (z ∷ zs) s w k identity user h = absurd h
  all_called (d ∷ ds) [] s w k identity user h = absurd h
  all_called (Step b ∷ ds) (z ∷ zs) s w k identity user (h, hs) =
      let c = lent b.message b.draws b.room identity user in
      let a = answer_of c (tag_of s) in
      let q = sent s w k identity user b z h in
      let g = subst (λ (l : LeftWith Told). CallsAll l.stepped.image l.identity l.user ds zs) q hs in
      λ j. q j ∷ all_called ds zs a.tag.session (answer_fits c (tag_of s) w) (answer_holds c (tag_of s) k)
      a.identity a.user (go_on a.tag.session a.identity a.user ds zs g) j
  all_called (Wake ∷ ds) (z ∷ zs) s w k identity user (h, hs) =
      let q = woken s w k identity user z h in
      let g = subst (λ (l : LeftWith Told). CallsAll l.stepped.image l.identity l.user ds zs) q hs in
      λ j. q j ∷ all_called ds zs cleared cleared_fits awake_holds identity user
      (go_on cleared identity user ds zs g) j

  -- from what `roualint_sheet` makes of the sheet
  pub sheet_tag : is_tag (sheet_image cleared sheet) ≡ true
  sheet_tag = tag_there cleared cleared_fits awake_holds

  pub sheet_run : (ds : List Doing) (zs : List (LeftWith Told)) (identity user : List ℕ)
      → CallsAll (sheet_image cleared sheet) identity user ds zs
      → zs ≡ left_all told_of ds (run (powered_up (said_of key_limit sheet)) identity user (events_of ds))
  unfolding powered_up
  sheet_run ds zs identity user = all_called ds zs cleared cleared_fits awake_holds identity user
