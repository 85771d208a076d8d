-- A tag that is stepped where it is kept leaves what a step by value returns: the outcome, and the tag that stands in
-- its place.
use Rattle.offer.specs.Outcomes.{Outcome}
use Rattle.tag.specs.declared.Tag.{Tag}
use Rattle.tag.specs.declared.Stepped.{Stepped}

abbrev pub left : Outcome → Tag → Stepped
left o t = record { outcome = o; tag = t }
