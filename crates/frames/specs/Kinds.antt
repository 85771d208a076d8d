-- Which message a first byte begins: 9.3, 9.4.1, 9.5.1, 9.6.1. Bits go most significant first.
use Rattle.std.specs.Prelude.{ℕ, ◌/◌, ◌%◌, eqb, ltb}
use Rattle.ground.specs.Choice.{pick}
use Rattle.frames.specs.declared.Kind.{Kind}
use Rattle.frames.specs.declared.Kind.TheVariants.{Tam1, Tam2, Iam1, Iam2, Iam3, Mam1, Mam2, Unsupported}

-- 9.3: AuthMethod, the first two bits
abbrev pub auth_method : ℕ → ℕ
auth_method first = first / 64

-- 9.5.1, 9.6.1: Step, the two bits after AuthMethod
abbrev pub step : ℕ → ℕ
step first = first / 16 % 4

-- 9.4.1: CustomData is the third bit
unfoldable pub tam_kind : ℕ → Kind
tam_kind first = pick (eqb (first / 32 % 2) 0) Tam1 Tam2

-- 9.5.1: by Step, and at Step 01 by CustomData, the fifth bit
unfoldable pub iam_kind : ℕ → Kind
iam_kind first =
    pick (eqb (step first) 0) Iam1
    (pick (eqb (step first) 1) (pick (eqb (first / 8 % 2) 0) Iam2 Iam3)
    Unsupported)

-- 9.6.1: by Step
unfoldable pub mam_kind : ℕ → Kind
mam_kind first = pick (eqb (step first) 0) Mam1 (pick (eqb (step first) 1) Mam2 Unsupported)

-- 9.3: by AuthMethod
unfoldable pub kind_of : ℕ → Kind
kind_of first =
    pick (eqb (auth_method first) 0) (tam_kind first)
    (pick (eqb (auth_method first) 1) (iam_kind first)
    (pick (eqb (auth_method first) 2) (mam_kind first)
    Unsupported))

-- the same by ranges of the first byte: 00 to 1F is TAM1, 20 to 3F TAM2, and so on
unfoldable pub table_kind : ℕ → Kind
table_kind first =
    pick (ltb first 0x20) Tam1
    (pick (ltb first 0x40) Tam2
    (pick (ltb first 0x50) Iam1
    (pick (ltb first 0x58) Iam2
    (pick (ltb first 0x60) Iam3
    (pick (ltb first 0x80) Unsupported (pick (ltb first 0x90) Mam1 (pick (ltb first 0xA0) Mam2 Unsupported)))))))
