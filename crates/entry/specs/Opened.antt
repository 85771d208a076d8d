-- What the tag judges of what the reader sends: 9.5.5, 9.5.8, 9.6.5. The reader made it by AES-DEC, so the tag opens it
-- by AES-ENC.
use Rattle.std.specs.Prelude.{ℕ, ◌+◌, ◌*◌, ◌/◌, ◌%◌, Bool, true, false, List, [], ◌++◌, eqb, take, drop, get_or}
use Rattle.ground.specs.Choice.{pick, both}
use Rattle.aes.specs.AesEnc.{aes_enc}
use Rattle.modes.specs.Cbc.{cbc_dec_aes}
use Rattle.sheet.specs.declared.Key.{Key}
use Rattle.frames.specs.declared.Custom.{Custom}
use Rattle.frames.specs.declared.Iam3.{Iam3}
use Rattle.frames.specs.Blocks.{blocks_length}
use Rattle.frames.specs.Constants.{c_mam2, iam3_constant}
use Rattle.frames.specs.Lengths.{iam3_head_length}
use Rattle.octets.specs.Alike.{same}
use Rattle.payload.specs.Data.{header_fits, filler_fits, words_in as words_behind}
use Rattle.frames.specs.declared.ProtMode.{ProtMode}
use Rattle.frames.specs.Modes.{encrypts, in_mode, prot_mode_of}
use Rattle.payload.specs.Protected.{mac_fits}
use Rattle.entry.specs.declared.Session.{Session}

-- An opened block: constant 12 bits, Purpose 4, four bytes, TChallenge 80.
abbrev pub constant_in : List ℕ → ℕ
constant_in b = get_or b 0 0 * 16 + get_or b 1 0 / 16

abbrev pub purpose_in : List ℕ → ℕ
purpose_in b = get_or b 1 0 % 16

abbrev pub middle_in : List ℕ → List ℕ
middle_in b = take 4 (drop 2 b)

abbrev pub challenge_in : List ℕ → List ℕ
challenge_in b = take 10 (drop 6 b)

-- Which Purposes the tag supports: all sixteen for now, also 0001 to 0111, which Table 1 reserves.
unfoldable pub purpose_allowed : ℕ → Bool
purpose_allowed purpose = true

-- 9.5.5 and 9.5.8: the constant, the Purpose, and the challenge that the tag issued. IRnd is the reader's, and is not
-- judged.
unfoldable pub iam_proof : ℕ → Session → List ℕ → Bool
iam_proof constant held b =
    both (eqb (constant_in b) constant) (both (purpose_allowed (purpose_in b)) (same (challenge_in b) held.tchallenge))

-- 9.6.5: also the last 32 bits of the reader's own challenge.
unfoldable pub mam_proof : Session → List ℕ → Bool
mam_proof held b = both (iam_proof c_mam2 held b) (same (middle_in b) held.ichallenge)

-- 9.5.8: the parts of an IAM3 message behind its fields: A, the D blocks as they were sent, and the MAC.
abbrev pub sent_block : List ℕ → List ℕ
sent_block m = take 16 (drop 4 m)

abbrev pub sent_data : Custom → List ℕ → List ℕ
sent_data c m = take (blocks_length c.blocksize true c.blockcount) (drop iam3_head_length m)

abbrev pub sent_mac : Custom → List ℕ → List ℕ
sent_mac c m = drop (iam3_head_length + blocks_length c.blocksize true c.blockcount) m

-- 9.5.8.2 to 9.5.8.5: header, data and filler in the clear.
unfoldable pub opened_in : Key → ProtMode → Iam3 → List ℕ → List ℕ
opened_in key mode f m =
    pick (encrypts mode) (cbc_dec_aes (sent_block m) key.enc (sent_data f.custom m)) (sent_data f.custom m)

-- 9.5.8.4, 9.5.8.5: the MAC covers A and the D blocks as they were sent.
unfoldable pub sent_mac_fits : Key → ProtMode → Iam3 → List ℕ → Bool
sent_mac_fits key mode f m =
    mac_fits key.mackey mode (sent_block m ++ sent_data f.custom m) (sent_mac f.custom m)

-- 9.5.8: an IAM3 always has a header; the data's words stand behind it.
abbrev pub words_in : Custom → List ℕ → List ℕ
words_in c p = words_behind true c p

-- Everything of an IAM3 that a key proves, after its fields were judged.
unfoldable pub proved_in : Key → Session → ProtMode → Iam3 → List ℕ → Bool
proved_in key held mode f m =
    let p = opened_in key mode f m in
    both (iam_proof (iam3_constant mode) held (aes_enc key.enc (sent_block m)))
    (both (sent_mac_fits key mode f m) (both (header_fits true f.custom p) (filler_fits true f.custom p)))

-- The same in the mode that its field says. Where it says none, nothing is opened and nothing proved; such a message is
-- refused before.
unfoldable pub opened_data : Key → Iam3 → List ℕ → List ℕ
opened_data key f m = in_mode (prot_mode_of f.protmode) (λ (mode : ProtMode). opened_in key mode f m) []

unfoldable pub iam3_proof : Key → Session → Iam3 → List ℕ → Bool
iam3_proof key held f m = in_mode (prot_mode_of f.protmode) (λ (mode : ProtMode). proved_in key held mode f m) false
