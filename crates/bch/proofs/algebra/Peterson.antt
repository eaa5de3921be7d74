-- Peterson's locator without inversion (document 01, "Hard stage"), over a field of characteristic 2: what is computed from
-- the syndromes, by the document's names.  (What its roots are is a law: `Roots`.) Assumes nothing.
use Rattle.galois.proofs.Field2.{Field2}
use Rattle.bch.proofs.algebra.Ring2.{Exp, ◌⊞◌, ◌⊠◌}

-- ---- the functions below on expressions, in capitals: a lemma hands them to `solve`

-- powers
abbrev pub SQ : Exp → Exp
SQ a = a ⊠ a

abbrev pub CUBE : Exp → Exp
CUBE a = a ⊠ a ⊠ a

abbrev pub FIFTH : Exp → Exp
FIFTH a = a ⊠ a ⊠ a ⊠ a ⊠ a

-- D2, δ2 and D3
abbrev pub DET2 : Exp → Exp → Exp
DET2 s1 s3 = CUBE s1 ⊞ s3

abbrev pub DELTA : Exp → Exp → Exp → Exp
DELTA s1 s3 s5 = SQ s1 ⊠ s3 ⊞ s5

abbrev pub DET3 : Exp → Exp → Exp → Exp
DET3 s1 s3 s5 = SQ (DET2 s1 s3) ⊞ s1 ⊠ DELTA s1 s3 s5

-- the locators in reverse
abbrev pub REV2 : Exp → Exp → Exp → Exp
REV2 s1 s3 w = s1 ⊠ SQ w ⊞ SQ s1 ⊠ w ⊞ DET2 s1 s3

abbrev pub REV3 : Exp → Exp → Exp → Exp → Exp
REV3 s1 s3 s5 w = DET2 s1 s3 ⊠ CUBE w ⊞ s1 ⊠ DET2 s1 s3 ⊠ SQ w ⊞ DELTA s1 s3 s5 ⊠ w ⊞ DET3 s1 s3 s5

module _ {F : Type 0} {𝟘 𝟙 : F} {◌⊕◌ ◌⊗◌ : F → F → F} (K : Field2 𝟘 𝟙 ◌⊕◌ ◌⊗◌) where
  infixl 65 ◌⊕◌
  infixl 70 ◌⊗◌
  -- ---- powers, and what is computed from the syndromes

  abbrev pub sq : F → F
  sq a = a ⊗ a

  abbrev pub cube : F → F
  cube a = a ⊗ a ⊗ a

  abbrev pub fifth : F → F
  fifth a = a ⊗ a ⊗ a ⊗ a ⊗ a

  -- D2, δ2 and D3, from the syndromes S1, S3 and S5
  abbrev pub det2 : F → F → F
  det2 s1 s3 = cube s1 ⊕ s3

  abbrev pub delta : F → F → F → F
  delta s1 s3 s5 = sq s1 ⊗ s3 ⊕ s5

  abbrev pub det3 : F → F → F → F
  det3 s1 s3 s5 = sq (det2 s1 s3) ⊕ s1 ⊗ delta s1 s3 s5

  -- the locators for t = 1, 2 and 3; their roots are the inverses of the elements
  abbrev pub locator1 : F → F → F
  locator1 s1 w = 𝟙 ⊕ s1 ⊗ w

  abbrev pub locator2 : F → F → F → F
  locator2 s1 s3 w = s1 ⊕ sq s1 ⊗ w ⊕ det2 s1 s3 ⊗ sq w

  abbrev pub locator3 : F → F → F → F → F
  locator3 s1 s3 s5 w = det2 s1 s3 ⊕ s1 ⊗ det2 s1 s3 ⊗ w ⊕ delta s1 s3 s5 ⊗ sq w ⊕ det3 s1 s3 s5 ⊗ cube w

  -- the same with the coefficients in reverse; their roots are the elements
  abbrev pub reverse2 : F → F → F → F
  reverse2 s1 s3 w = s1 ⊗ sq w ⊕ sq s1 ⊗ w ⊕ det2 s1 s3

  abbrev pub reverse3 : F → F → F → F → F
  reverse3 s1 s3 s5 w = det2 s1 s3 ⊗ cube w ⊕ s1 ⊗ det2 s1 s3 ⊗ sq w ⊕ delta s1 s3 s5 ⊗ w ⊕ det3 s1 s3 s5

  -- the product of the differences of three elements: not 0 where they are distinct
  abbrev pub apart : F → F → F → F
  apart x y z = (x ⊕ y) ⊗ (x ⊕ z) ⊗ (y ⊕ z)
