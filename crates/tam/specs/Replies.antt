-- What the tag sends: 9.4.3, 9.4.6. The keys are those of the record that the message named; `draws` are the tag's
-- random bytes.
use Rattle.std.specs.Prelude.{ℕ, List, [], ◌++◌, take}
use Rattle.ground.specs.Bytes.{two_bytes}
use Rattle.ground.specs.Choice.{pick}
use Rattle.aes.specs.AesEnc.{aes_enc}
use Rattle.modes.specs.Cbc.{cbc_enc_aes}
use Rattle.sheet.specs.declared.Key.{Key}
use Rattle.frames.specs.declared.Tam1.{Tam1}
use Rattle.frames.specs.declared.Tam2.{Tam2}
use Rattle.frames.specs.Constants.{c_tam1, tam2_constant}
use Rattle.payload.specs.Data.{carried_data}
use Rattle.frames.specs.declared.ProtMode.{ProtMode}
use Rattle.frames.specs.Modes.{encrypts, in_mode, prot_mode_of}
use Rattle.payload.specs.Protected.{with_mac}

-- 9.4.3, 9.4.6.1: constant, TRnd, IChallenge, encrypted. TRnd is the first four draws.
unfoldable pub tam_block : List ℕ → List ℕ → List ℕ → List ℕ → List ℕ
tam_block enc constant draws ichallenge = aes_enc enc (constant ++ (take 4 draws ++ ichallenge))

-- 9.4.3
unfoldable pub tam1_reply : Key → Tam1 → List ℕ → List ℕ
tam1_reply key m draws = tam_block key.enc (two_bytes c_tam1) draws m.ichallenge

-- 9.4.6.2 to 9.4.6.9: the authentication block A, the data as they are or chained to A, and the MAC over both as they
-- are sent.
unfoldable pub tam2_body : Key → ProtMode → List ℕ → List ℕ → List ℕ
tam2_body key mode a p = pick (encrypts mode) (cbc_enc_aes a key.enc p) p

unfoldable pub tam2_in_mode : Key → Tam2 → List ℕ → List ℕ → ProtMode → List ℕ
tam2_in_mode key m words draws mode =
    let a = tam_block key.enc (two_bytes (tam2_constant m.rev mode)) draws m.ichallenge in
    with_mac key.mackey mode (a ++ tam2_body key mode a (carried_data m.rev m.custom words))

-- Where the field says no mode, there is no reply; such a message is refused.
unfoldable pub tam2_reply : Key → Tam2 → List ℕ → List ℕ → List ℕ
tam2_reply key m words draws = in_mode (prot_mode_of m.protmode) (tam2_in_mode key m words draws) []
