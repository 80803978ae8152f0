-- The definitions at known values: of RFC 1321, appendix A.5, and of FNV-1a.
use Rattle.std.proofs.Common.{◌≡◌, [], ◌∷◌, codes, refl}
use Rattle.digest.specs.Fnv.{fnv_words}
use Rattle.digest.specs.Md5.{step, block, md5_words}

fnv_foobar : fnv_words (codes "foobar") ≡ 0x85944171 ∷ 0xf73967e8 ∷ 0x34531da7 ∷ 0x168b90eb ∷ []
fnv_foobar = refl

md5_empty : md5_words [] ≡ 0xd41d8cd9 ∷ 0x8f00b204 ∷ 0xe9800998 ∷ 0xecf8427e ∷ []
unfolding step block
md5_empty = refl

md5_abc : md5_words (codes "abc") ≡ 0x90015098 ∷ 0x3cd24fb0 ∷ 0xd6963f7d ∷ 0x28e17f72 ∷ []
unfolding step block
md5_abc = refl

md5_digits : md5_words (codes "12345678901234567890123456789012345678901234567890123456789012345678901234567890")
    ≡ 0x57edf4a2 ∷ 0x2be3c955 ∷ 0xac49da2e ∷ 0x2107b67a ∷ []
unfolding step block
md5_digits = refl
