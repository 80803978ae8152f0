-- Messages written into a lent output, and when that is refused.
use Rattle.std.specs.Prelude.{◌≡◌, ℕ, zero, suc, ◌+◌, ◌*◌, ◌/◌, Bool, cond, not, ◌&&◌, List, [], ◌∷◌, ◌++◌, length, take, drop, None, Option, ◌==◌, nat_lt}
use Rattle.std.specs.List.{flat_map}
use Rattle.filter.specs.Summaries.{bit, differs, tally}
use Rattle.icp.specs.declared.contents.Change.{Change}
use Rattle.icp.specs.declared.refusals.MessageFault.{MessageFault}
use Rattle.icp.specs.declared.refusals.MessageFault.TheVariants as fault
use Rattle.icp.specs.Contents.{Content, changes, whole, entry_octets, written}
use Rattle.icp.specs.Names.{nameable}
use Rattle.icp.specs.Faults.{refuse}

-- the first octets of an output are these, and the others remain
abbrev pub begins : List ℕ → List ℕ → List ℕ
begins p out = p ++ drop (length p) out

-- an output before and after a message was written, and the message's length
pub record Written (m : ℕ) (c : Content) (before after : List ℕ) (n : ℕ) : Type 0 where
  pub long : n ≡ length (written m c)
  pub octets : after ≡ begins (written m c) before

-- octets put into others, from place `at` on
abbrev pub put_at : List ℕ → ℕ → List ℕ → List ℕ
put_at xs at ys = take at xs ++ (ys ++ drop (at + length ys) xs)

-- the first n positions in which two summaries differ, with the values of the second
abbrev pub changed : List ℕ → List ℕ → ℕ → List Change
changed a b zero = []
changed a b (suc n) = changed a b n ++ cond (differs a b n) (record { position = n; value = bit b n } ∷ []) []

-- the summaries are of one size, and so few positions differ that a list of them is the shorter message
abbrev pub listable : ℕ → ℕ → List ℕ → List ℕ → Bool
listable m m_before a b = m_before == m && nat_lt (4 * tally (differs a b) m) (m / 8)

-- a version that follows an earlier one: what changed, or the whole
abbrev pub declaration : ℕ → ℕ → ℕ → ℕ → List ℕ → List ℕ → Content
declaration sender earlier m m_before a b =
    cond (listable m m_before a b) (changes sender (earlier + 1) (changed a b m)) (whole sender (earlier + 1) b)

-- the output is too short
abbrev pub short_output : ℕ → ℕ → ℕ → Option MessageFault
short_output sender room need = refuse (nat_lt room need) (fault.Output sender) None

-- no version follows the last one; the output has to have room for the whole
abbrev pub declaration_refusal : ℕ → ℕ → ℕ → ℕ → Option MessageFault
declaration_refusal sender earlier m room = refuse (earlier == 4294967295) (fault.LastVersion sender) (short_output sender room (32 + m / 8))

-- there is no version 0 to repeat
abbrev pub whole_refusal : ℕ → ℕ → ℕ → ℕ → Option MessageFault
whole_refusal sender version m room = refuse (version == 0) (fault.NothingDeclared sender) (short_output sender room (32 + m / 8))

-- a bad name is not written; it follows so many octets, and a zero octet follows it
abbrev pub text_refusal : ℕ → ℕ → List ℕ → ℕ → Option MessageFault
text_refusal sender head name room = refuse (not (nameable name)) (fault.Name sender) (short_output sender room (head + length name + 1))

-- an output whose first 32 octets are followed by the entries for the first n positions
abbrev pub listed : List ℕ → List ℕ → List ℕ → ℕ → List ℕ
listed out a b n = begins (take 32 out ++ flat_map entry_octets (changed a b n)) out
