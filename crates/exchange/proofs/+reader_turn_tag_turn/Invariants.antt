-- The reader's turn and the tag's turn, which call each other: the number of turns to play falls.
use Rattle.exchange.proofs.+reader_turn_tag_turn.Given as goal

abbrev pub decreases-reader_turn : goal.decreases-reader_turn
decreases-reader_turn l = l.turns

abbrev pub decreases-tag_turn : goal.decreases-tag_turn
decreases-tag_turn l = l.turns
