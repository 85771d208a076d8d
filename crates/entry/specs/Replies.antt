-- What the tag sends: 9.6.3. (The reply to IAM1, 9.5.3, is the challenge itself.) The key is that of the record that
-- the message named; `draws` are the tag's random bytes.
use Rattle.std.specs.Prelude.{ℕ, List, ◌++◌, take, drop}
use Rattle.ground.specs.Bytes.{two_bytes}
use Rattle.aes.specs.AesEnc.{aes_enc}
use Rattle.sheet.specs.declared.Key.{Key}
use Rattle.frames.specs.declared.Mam1.{Mam1}
use Rattle.frames.specs.Constants.{c_mam1}

-- Table 24: constant, the last 32 bits of TChallenge, IChallenge, encrypted; then the first 48 bits of TChallenge in
-- the clear.
unfoldable pub mam1_reply : Key → Mam1 → List ℕ → List ℕ
mam1_reply key m draws = aes_enc key.enc (two_bytes c_mam1 ++ (drop 6 draws ++ m.ichallenge)) ++ take 6 draws
