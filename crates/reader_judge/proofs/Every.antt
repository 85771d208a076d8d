-- What holds of each refusal, and of each acceptance, holds of what a reply to a message of the table comes to.
use Rattle.std.specs.Prelude.{Option, Some, None}
use mathlib.Core.List.{List}
use Prim.Native.Nat.{ℕ}
use Rattle.ground.specs.Checks.{Check, judged_to}
use Rattle.ground.proofs.Checked.{keeps}
use Rattle.frames.specs.declared.Kind.{Kind}
use Rattle.frames.specs.declared.Kind.TheVariants.{Tam1, Tam2, Iam1, Iam2, Iam3, Mam1, Mam2, Unsupported}
use Rattle.frames.specs.declared.ProtMode.{ProtMode}
use Rattle.frames.specs.Messages.{tam2_of}
use Rattle.frames.specs.Modes.{in_mode, prot_mode_of}
use Rattle.payload.specs.Data.{words_in}
use Rattle.reader.specs.declared.Keys.{Keys}
use Rattle.reader.specs.declared.ReaderFault.{ReaderFault}
use Rattle.reader.specs.declared.ReaderFault.TheVariants.{OwnMessage}
use Rattle.reader_judge.specs.Findings.{Finding, refused, nothing_more, carries, worth_of, issues}
use Rattle.reader_judge.specs.Judged.{tam1_finding, tam2_finding, iam1_finding, mam1_finding, empty_finding}
use Rattle.reader_judge.specs.Judged.{data_finding, tam2_in_mode, by_kind}

module _ (P : Finding → Type 0) (refusal : (e : ReaderFault) → P (refused e)) where
  line : (cs : List (Check ReaderFault)) (f : Finding) → P f → P (judged_to refused cs f)
  line cs f h = keeps refused f P refusal h cs

  moded : (x : Option ProtMode) (of : ProtMode → Finding) → ((mode : ProtMode) → P (of mode))
      → P (in_mode x of (refused OwnMessage))
  moded (Some mode) of h = h mode
  moded None of h = refusal OwnMessage

  module _ (keys : Keys) (m reply : List ℕ) (nothing : P nothing_more) (issued : (c : List ℕ) → P (issues c))
      (carried : (mode : ProtMode) (p : List ℕ)
      → P (carries (worth_of mode) (words_in (tam2_of m).rev (tam2_of m).custom p))) where
    in_its_mode : (mode : ProtMode) → P (tam2_in_mode keys (tam2_of m) reply mode)
    unfolding tam2_in_mode data_finding
    in_its_mode mode = line _ _ (line _ _ (carried mode _))

    pub every_kind : (k : Kind) → P (by_kind keys m reply k)
    unfolding by_kind tam1_finding tam2_finding iam1_finding empty_finding mam1_finding
    every_kind Tam1 = line _ _ nothing
    every_kind Tam2 = moded (prot_mode_of (tam2_of m).protmode) (tam2_in_mode keys (tam2_of m) reply) in_its_mode
    every_kind Iam1 = line _ _ (issued reply)
    every_kind Iam2 = line _ _ nothing
    every_kind Iam3 = line _ _ nothing
    every_kind Mam1 = line _ _ (issued _)
    every_kind Mam2 = line _ _ nothing
    every_kind Unsupported = refusal OwnMessage
