-- What demand 3 lets differ is all that may: with another key in a record that is named, or another word that is open,
-- the replies differ. The tag is the one of SilenceExamples, with the two ENC_keys of Annex F; the message, the draws
-- and the first reply are those of Tables F.3 and F.4.
use Rattle.std.specs.Prelude.{Ok}
use Rattle.offer.specs.declared.Answer.TheVariants.{Replied}
use mathlib.Core.Path.{◌≡◌, refl, sym, ap, ◌∙◌}
use mathlib.Core.List.{List, [], ◌∷◌, ◌++◌, append_cancel_left, append_cancel_right}
use Prim.Native.Nat.{ℕ, zero, suc, ◌/◌, ◌%◌}
use native.Mathlib.Omega.{arith}
use lib.ListN.{length, get_or, replicate}
use Rattle.field.specs.Block.{xor}
use Rattle.field.specs.Field.{times, remainder, polynomial_product, product_of_squares, inverse}
use Rattle.field.specs.Sbox.{sbox, affine, affine_bit, from_bits}
use Rattle.aes.specs.Cipher.{sub_bytes, shift_rows, mix_columns, mixed_byte}
use Rattle.aes.specs.KeyExpansion.{round_constant}
use Rattle.aes.specs.NextRoundKey.{next_round_key}
use Rattle.aes.specs.AesEnc.{aes_enc}
use Rattle.memory.specs.Address.{block_size_bit, step_of, address_of, last_word, profile_end, overruns}
use Rattle.memory.specs.Areas.{area_of, within, part_of, window_of}
use Rattle.memory.specs.Rights.{permitted}
use Rattle.sheet.specs.declared.Key.{Key}
use Rattle.octets.specs.Parts.{bytes_from}
use Rattle.frames.specs.Asked.{block_asked as words_asked}
use Rattle.frames.specs.Blocks.{block_bytes, data_length, header_length, header_part, carried, d_of, blocks_length}
use Rattle.frames.specs.Constants.{by_mode, tam2_constant}
use Rattle.frames.specs.Fields.{size_of, select_custom}
use Rattle.frames.specs.Header.{header_start, header_of}
use Rattle.frames.specs.Kinds.{kind_of, tam_kind}
use Rattle.frames.specs.Lengths.{length_fits}
use Rattle.frames.specs.Modes.{encrypts, has_mac, prot_mode_of}
use Rattle.frames.specs.Messages.{tam1_of, tam2_of}
use Rattle.payload.specs.Data.{filled, carried_data}
use Rattle.payload.specs.Protected.{with_mac}
use Rattle.ground.specs.Checks.{judged_to}
use Rattle.entry.specs.Sessions.{cleared}
use Rattle.tag.specs.States.{holding, in_turn, powered_up}
use Rattle.keytable.specs.Named.{has_key, key_with}
use Rattle.offer.specs.Records.{offered, size_offered, rev_offered, mode_offered, mode_served, mode_supported}
use Rattle.offer.specs.Records.{slot_named}
use Rattle.offer.specs.Records.{block_asked}
use Rattle.tam.specs.Replies.{tam_block, tam1_reply, tam2_body, tam2_in_mode, tam2_reply}
use Rattle.offer.specs.Judged.{lending_checks, opening_checks}
use Rattle.tam.specs.Judged.{tam2_checks}
use Rattle.tag.specs.Answers.{replied, if_fine, tam1_answer, tam2_answer, by_kind, in_order, of_message, effect_of}
use Rattle.tag.specs.Runs.{Event, Message, answer_to, run}
use Rattle.silence.specs.Silence.{Memory, SameAnswers, answers}
use Rattle.silence.proofs.SilenceExamples.{ours, carrying, keeping}
use Rattle.silence.proofs.Traces.{Row, traced}

-- sixteen bytes as they are printed
abbrev digits : ℕ → ℕ → List ℕ → List ℕ
digits zero n more = more
digits (suc k) n more = digits k (n / 256) (n % 256 ∷ more)

abbrev bytes : ℕ → List ℕ
bytes n = digits 16 n []

abbrev row : ℕ → ℕ → Row
row key state = record { key = bytes key; state = bytes state }

-- constant, TRnd, IChallenge
abbrev block : List ℕ
block = bytes 0x96C56D69637296564402375796C69664

abbrev first_rows : List Row
first_rows =
    row 0xD6AA74FDD2AF72FADAA678F1D6AB76FE 0xB1DDDE7AFAB45607D0836D84B3C1CCC5
    ∷ row 0xB692CF0B643DBDF1BE9BC5006830B3FE 0x2BB903AE80D49F8E0EF9A36404538787
    ∷ row 0xB6FF744ED2C2C9BF6C590CBF0469BF41 0x8A97E02A10FB84AE6FA797FD99027347
    ∷ row 0x47F7F7BC95353E03F96C32BCFD058DFD 0x82B476E2942899442EF6031AB255A9AB
    ∷ row 0x3CAAA3E8A99F9DEB50F3AF57ADF622AA 0x5F3ED45660CFF3370E723FF6034BA2CF
    ∷ row 0x5E390F7DF7A69296A7553DC10AA31F6B 0xA1EC25C70709BEFEF6C100F37EF20ADD
    ∷ row 0x14F9701AE35FE28C440ADF4D4EA9C026 0xD1ADDDB75B05C050C4BBBC505939AD52
    ∷ row 0x47438735A41C65B9E016BAF4AEBF7AD2 0xE3041879CFE767C47C25D8A56EC3BE1D
    ∷ row 0x549932D1F08557681093ED9CBE2C974E 0x14BC8244A62E640BF32FB61715DEE18F
    ∷ []

first_reply : aes_enc (bytes 0x000102030405060708090A0B0C0D0E0F) block ≡ bytes 0xE920530CC781B20CFE1AB4A0144E7335
unfolding next_round_key round_constant xor mix_columns mixed_byte shift_rows sub_bytes sbox affine affine_bit from_bits
    inverse product_of_squares times remainder polynomial_product
first_reply =
    traced (bytes 0x000102030405060708090A0B0C0D0E0F) block refl first_rows (bytes 0x13111D7FE3944A17F307A78B4D2B30C5)
    refl (
      refl,
      refl,
      (
        refl,
        refl,
        (
          refl,
          refl,
          (
            refl,
            refl,
            (refl, refl, (refl, refl, (refl, refl, (refl, refl, (refl, refl, tt))))),
          ),
        ),
      ),
    ) refl

abbrev second_rows : List Row
second_rows =
    row 0x66072FD8285845A3A4C54BBC8E768F69 0x688C4EE0D50D264B884A502A81B07ACF
    ∷ row 0x5C74D6C1742C9362D0E9D8DE5E9F57B7 0x6DFB6785280CD1B2ED3A6B3CF8BCFEE1
    ∷ row 0x832F7F99F703ECFB27EA342579756392 0x658D50B7286D97A990D64C543F8377AD
    ∷ row 0x16D4302FE1D7DCD4C63DE8F1BF488B63 0x740FB7DCD4B90FC2A9B8AC531A24C869
    ∷ row 0x54E9CB27B53E17F37303FF02CC4B7461 0xF98626A4FF0B69B818793CB99272605D
    ∷ row 0xC77B246C7245339F0146CC9DCD0DB8FC 0x34DE8F840606F3511B05601E308CA03C
    ∷ row 0x501794D12252A74E23146BD3EE19D32F 0xEA517E8BFE8F99CA68372E97BE4246D7
    ∷ row 0x047181F9262326B705374D64EB2E9E4B 0xBB4D05359964F4DB7C50459CA298A596
    ∷ row 0x2E7A3210085914A70D6E59C3E640C788 0xDA34EC23AA8D04EC35F609B7CDA3023D
    ∷ []

second_reply : aes_enc (bytes 0x0A1B2C3D4E5F6A7B8C9D0E1F2AB3C4D5) block ≡ bytes 0x46E1F7B9B5A7951F828175344FD38EDB
unfolding next_round_key round_constant xor mix_columns mixed_byte shift_rows sub_bytes sbox affine affine_bit from_bits
    inverse product_of_squares times remainder polynomial_product
second_reply =
    traced (bytes 0x0A1B2C3D4E5F6A7B8C9D0E1F2AB3C4D5) block refl second_rows (bytes 0x11BCF69E19E5E239148BBBFAF2CB7C72)
    refl (
      refl,
      refl,
      (
        refl,
        refl,
        (
          refl,
          refl,
          (
            refl,
            refl,
            (refl, refl, (refl, refl, (refl, refl, (refl, refl, (refl, refl, tt))))),
          ),
        ),
      ),
    ) refl

-- ---- TAM1 in the name of record 1

abbrev asked : List Event
asked = Message (record {
  message = 0 ∷ 1 ∷ 0x96 ∷ 0x56 ∷ 0x44 ∷ 0x02 ∷ 0x37 ∷ 0x57 ∷ 0x96 ∷ 0xC6 ∷ 0x96 ∷ 0x64 ∷ [];
  draws = 0x6D ∷ 0x69 ∷ 0x63 ∷ 0x72 ∷ replicate 6 0;
  room = 172;
}) ∷ []

answered : (enc : List ℕ) (l : Key) (a b : ℕ) → answers (carrying (ours enc) l) (keeping a b) asked
    ≡ record {
      outcome = Ok (Replied (length (aes_enc enc block)));
      tag = holding (carrying (ours enc) l) cleared;
      reply = aes_enc enc block;
      identity =
          [];
      user = 1 ∷ 2 ∷ a ∷ b ∷ [];
    } ∷ []
unfolding run answer_to powered_up effect_of lending_checks judged_to of_message in_order kind_of tam_kind offered
    in_turn by_kind tam1_answer tam1_of bytes_from opening_checks length_fits has_key key_with carrying if_fine replied
    tam1_reply tam_block
answered enc l a b = refl

-- Two tags that differ in the ENC_key of record 1, and are told apart by their replies.
pub told_apart : (l : Key) (a b : ℕ)
    → SameAnswers (keeping a b) (keeping a b) (answers (carrying (ours (bytes 0x000102030405060708090A0B0C0D0E0F)) l)
    (keeping a b) asked)
    (answers (carrying (ours (bytes 0x0A1B2C3D4E5F6A7B8C9D0E1F2AB3C4D5)) l) (keeping a b) asked)
    → ⊥
unfolding SameAnswers
told_apart l a b h =
    let same = (rw (
      answered (bytes 0x000102030405060708090A0B0C0D0E0F) l a b,
      answered
          (bytes 0x0A1B2C3D4E5F6A7B8C9D0E1F2AB3C4D5) l a b,
    ) at h).0.reply in
    let first : ◌≡◌ {A = ℕ} 0xE9 0x46 = ap (λ (r : List ℕ). get_or r 0 0) (sym first_reply ∙ same ∙ second_reply) in
    omega arith

-- ---- TAM2 in the name of record 1, Rev 1, 16-bit blocks, ProtMode 0, of profile 0: its one word

abbrev challenge : List ℕ
challenge = replicate 10 0

abbrev read : List Event
read =
    Message (record {
      message = 0x38 ∷ 1 ∷ (challenge ++ (0 ∷ 0 ∷ 0 ∷ []));
      draws = replicate 10 0;
      room = 172;
    })
    ∷ []

abbrev showing : ℕ → ℕ → Memory
showing a b = record { identity = []; user = a ∷ b ∷ 3 ∷ 4 ∷ [] }

-- header, word and filler go in the clear behind the authentication block
abbrev clear : ℕ → ℕ → List ℕ
clear a b = 0x80 ∷ 0 ∷ 0 ∷ 0 ∷ a ∷ b ∷ replicate 10 0

abbrev authentication : List ℕ → List ℕ
authentication enc = aes_enc enc (0x96 ∷ 0xC0 ∷ replicate 14 0)

abbrev shown : List ℕ → ℕ → ℕ → List ℕ
shown enc a b = (authentication enc ++ clear a b) ++ []

word_answered : (enc : List ℕ) (l : Key) (a b : ℕ) → answers (carrying (ours enc) l) (showing a b) read
    ≡ record {
      outcome = Ok (Replied (length (shown enc a b)));
      tag = holding (carrying (ours enc) l) cleared;
      reply = shown enc a b;
      identity =
          [];
      user = a ∷ b ∷ 3 ∷ 4 ∷ [];
    } ∷ []
unfolding run answer_to powered_up effect_of lending_checks judged_to of_message in_order kind_of tam_kind offered
    in_turn by_kind tam2_answer tam2_of bytes_from size_of select_custom tam2_checks length_fits size_offered
    rev_offered mode_supported mode_served mode_offered prot_mode_of has_mac has_key key_with slot_named block_asked
    words_asked address_of step_of overruns profile_end last_word permitted window_of area_of part_of within carrying
    if_fine replied tam2_reply tam2_in_mode tam2_body tam_block by_mode tam2_constant encrypts with_mac carried_data
    filled header_of header_start header_length header_part data_length carried blocks_length d_of block_bytes
    block_size_bit
word_answered enc l a b = refl

-- Two tags that differ in that word, and are told apart by their replies, whatever the keys are.
pub word_told_apart : (enc : List ℕ) (l : Key)
    → SameAnswers (showing 1 2) (showing 5 2) (answers (carrying (ours enc) l) (showing 1 2) read)
    (answers (carrying (ours enc) l) (showing 5 2) read) → ⊥
unfolding SameAnswers
word_told_apart enc l h =
    let same = (rw (word_answered enc l 1 2, word_answered enc l 5 2) at h).0.reply in
    let a = authentication enc in
    let told = append_cancel_left a (clear 1 2) (clear 5 2)
    (append_cancel_right (a ++ clear 1 2) (a ++ clear 5 2) [] same) in
    let first : ◌≡◌ {A = ℕ} 1 5 = ap (λ (r : List ℕ). get_or r 4 0) told in
    omega arith
