use mathlib.Core.Path.{sym, ◌∙◌}
use Rattle.sheet.specs.Limits.{key_limit}
use Rattle.sheet.specs.Judgement.{record_of}
use Rattle.sheet.proofs.Judgements.{key_room_lem, profile_room, lock_room, rule_broken}
use Rattle.sheet.proofs.Rules.{profile_place}
use Rattle.sheet.proofs.records.judge_body.Goals as goal
use Rattle.sheet.proofs.records.judge_body.Goals.{
  in-FeatureRecord,
  in-SizeRecord,
  in-KeyRecord,
  in-ProfileRecord,
  in-LockRecord,
}

pub returns-then-not-keeps_rule : goal.returns-then-not-keeps_rule
returns-then-not-keeps_rule c = rule_broken _ _ _ (sym c.keeps_rule.ensures ∙ c.if-not-keeps_rule.true)

pub with_key-requires : goal.with_key-requires
with_key-requires c = key_room_lem key_limit _ _ c.in-KeyRecord.is c.requires.1

pub with_profile-requires : goal.with_profile-requires
with_profile-requires c =
    let rule = rw c.in-ProfileRecord.is at (sym c.keeps_rule.ensures ∙ c.if-not-keeps_rule.false) in
    (profile_room key_limit _ _ c.in-ProfileRecord.is c.requires.1, profile_place _ _ _ rule)

pub with_lock-requires : goal.with_lock-requires
with_lock-requires c = lock_room key_limit _ _ c.in-LockRecord.is c.requires.1

pub returns-in-EndRecord : goal.returns-in-EndRecord
unfolding record_of
returns-in-EndRecord c = rw c.in-EndRecord.is

pub returns : goal.returns
unfolding record_of
returns c =
    let kept = sym c.keeps_rule.ensures ∙ c.if-not-keeps_rule.false in
    let long = c.body_length.ensures in
    elim c.match-q.branch [
      | in-FeatureRecord w ↦
          let is = w.in-FeatureRecord.is in rw (long, is, w.gathered-is, w.with_features.ensures, rw is at kept)
      | in-SizeRecord w ↦
          let is = w.in-SizeRecord.is in rw (long, is, w.gathered-is, w.with_sizes.ensures, rw is at kept)
      | in-KeyRecord w ↦
          let is = w.in-KeyRecord.is in rw (long, is, w.gathered-is, w.with_key.ensures, rw is at kept)
      | in-ProfileRecord w ↦
          let is = w.in-ProfileRecord.is in rw (long, is, w.gathered-is, w.with_profile.ensures, rw is at kept)
      | in-LockRecord w ↦
          let is = w.in-LockRecord.is in rw (long, is, w.gathered-is, w.with_lock.ensures, rw is at kept)
    ]
