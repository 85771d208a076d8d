-- `keytable::body_of` meets its contract.
use mathlib.Core.Path.{refl, sym, ◌∙◌}
use native.Mathlib.Omega.{arith}
use Rattle.keytable.proofs.Records.{found, further, missing, long_body, body_long, found_at}
use Rattle.keytable.proofs.Records.{all_behind, four_first, at_second, at_third, at_fourth, behind_four}
use Rattle.keytable.proofs.body_of.Goals as goal

pub returns-then-four-keyid : goal.returns-then-four-keyid
returns-then-four-keyid c =
    let i = c.loop-four.invariant in
    let t = c.in-Some.ensures.steps.1 in
    let w = four_first _ _ _ (sym i.3 ∙ t.0) (t.1 ∙ i.2) in
    let b = i.4 in
    let f = found_at _ _ _ _ w.0 w.1 0 (omega arith) b _ c.if-four-keyid.true refl in
    (body_long _ _ _ _ w.0 w.1 0 (omega arith) b, sym f.0, f.1)

pub returns-then-four-keyid-2 : goal.returns-then-four-keyid-2
returns-then-four-keyid-2 c =
    let i = c.loop-four.invariant in
    let t = c.in-Some.ensures.steps.1 in
    let w = four_first _ _ _ (sym i.3 ∙ t.0) (t.1 ∙ i.2) in
    let b = at_second _ _ _ _ w.0 w.1 i.4 c.if-four-keyid.false in
    let f = found_at _ _ _ _ w.0 w.1 37 (omega arith) b _ c.if-four-keyid-2.true refl in
    (body_long _ _ _ _ w.0 w.1 37 (omega arith) b, sym f.0, f.1)

pub returns-then-four-keyid-3 : goal.returns-then-four-keyid-3
returns-then-four-keyid-3 c =
    let i = c.loop-four.invariant in
    let t = c.in-Some.ensures.steps.1 in
    let w = four_first _ _ _ (sym i.3 ∙ t.0) (t.1 ∙ i.2) in
    let b = at_third _ _ _ _ w.0 w.1 i.4 c.if-four-keyid.false c.if-four-keyid-2.false in
    let f = found_at _ _ _ _ w.0 w.1 74 (omega arith) b _ c.if-four-keyid-3.true refl in
    (body_long _ _ _ _ w.0 w.1 74 (omega arith) b, sym f.0, f.1)

pub returns-then-four-keyid-4 : goal.returns-then-four-keyid-4
returns-then-four-keyid-4 c =
    let i = c.loop-four.invariant in
    let t = c.in-Some.ensures.steps.1 in
    let w = four_first _ _ _ (sym i.3 ∙ t.0) (t.1 ∙ i.2) in
    let b = at_fourth _ _ _ _ w.0 w.1 i.4 c.if-four-keyid.false c.if-four-keyid-2.false c.if-four-keyid-3.false in
    let f = found_at _ _ _ _ w.0 w.1 111 (omega arith) b _ c.if-four-keyid-4.true refl in
    (body_long _ _ _ _ w.0 w.1 111 (omega arith) b, sym f.0, f.1)

pub loop-four-preserved : goal.loop-four-preserved
loop-four-preserved c =
    let i = c.loop-four.invariant in
    let t = c.in-Some.ensures.steps in
    let w = four_first _ _ _ (sym i.3 ∙ t.1.0) (t.1.1 ∙ i.2) in
    let n = all_behind c.loop-four.left.now in (
      omega arith,
      tt,
      t.0 ∙ i.2,
      w.2 ∙ sym n,
      rw n
          (behind_four _ _ _ _ w.0 w.1 i.4 c.if-four-keyid.false c.if-four-keyid-2.false c.if-four-keyid-3.false
          c.if-four-keyid-4.false),
    )

pub returns-then-record-keyid : goal.returns-then-record-keyid
returns-then-record-keyid c =
    let i = c.loop-record.invariant in
    let s = c.in-Some-record.ensures.steps.1 in
    let f = found _ _ _ _ _ s.0 (s.1 ∙ i.2) i.3 _ c.if-record-keyid.true refl in
    (long_body _ _ _ _ _ s.0 (s.1 ∙ i.2) i.3, sym f.0, f.1)

pub loop-record-preserved : goal.loop-record-preserved
loop-record-preserved c =
    let i = c.loop-record.invariant in
    let s = c.in-Some-record.ensures.steps in
    (omega arith, tt, s.0 ∙ i.2, further _ _ _ _ _ s.1.0 (s.1.1 ∙ i.2) i.3 c.if-record-keyid.false)

pub returns : goal.returns
returns c =
    let i = c.loop-record.invariant in
    sym (missing _ _ _ (omega (arith, c.in-None-record.ensures.steps)) i.3).0
