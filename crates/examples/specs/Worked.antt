-- The worked examples.
use Rattle.std.specs.Prelude.{◌≡◌, ℕ, ◌<◌, true, List, [], ◌∷◌, length, replicate, codes, slice_index}
use Rattle.digest.specs.Md5.{md5, md5_words}
use Rattle.filter.specs.Positions.{positions}
use Rattle.filter.specs.Counters.{raised, lowered, Issued}
use Rattle.filter.specs.Summaries.{differs, tally, Summarizes}
use Rattle.icp.specs.Contents.{written}
use Rattle.icp.specs.Writing.{declaration}

-- the positions of the name abc at m = 64, by MD5
abbrev pub abc_positions : List ℕ
abc_positions = positions 64 (md5_words (codes "abc"))

pub record Worked : Type 0 where
  -- MD5 of abc is 900150983cd24fb0d6963f7d28e17f72
  pub abc_digest : md5 (codes "abc") ≡ 0x90 ∷ 0x01 ∷ 0x50 ∷ 0x98 ∷ 0x3c ∷ 0xd2 ∷ 0x4f ∷ 0xb0 ∷ 0xd6 ∷ 0x96 ∷ 0x3f ∷ 0x7d ∷ 0x28 ∷ 0xe1 ∷ 0x7f ∷ 0x72 ∷ []
  -- at m = 64 its positions are 24, 48, 61 and 50
  pub abc_at_64 : abc_positions ≡ 24 ∷ 48 ∷ 61 ∷ 50 ∷ []
  -- the octets of a summary of a filter with nothing but abc are 0000000100000520
  pub abc_summary : (counters octets : List ℕ) → Issued abc_positions (replicate 64 0) counters → Summarizes counters octets → ((i : ℕ) → slice_index octets i < 256)
      → octets ≡ 0x00 ∷ 0x00 ∷ 0x00 ∷ 0x01 ∷ 0x00 ∷ 0x00 ∷ 0x05 ∷ 0x20 ∷ []
  -- a counter at 14 that is raised and then lowered is 15
  pub stuck_counter : lowered true (raised true 14) ≡ 15
  -- at m = 64 one change is a list of 36 octets
  pub one_change : (sender earlier : ℕ) (before after : List ℕ) → tally (differs before after) 64 ≡ 1 → length (written 64 (declaration sender earlier 64 64 before after)) ≡ 36
  -- and two changes are a whole of 40
  pub two_changes : (sender earlier : ℕ) (before after : List ℕ) → length after ≡ 8 → tally (differs before after) 64 ≡ 2 → length (written 64 (declaration sender earlier 64 64 before after)) ≡ 40
