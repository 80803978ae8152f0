-- What the writers put together is the message of their content.
use Rattle.std.proofs.Common.{◌≡◌, ℕ, ◌+◌, ◌-◌, ◌*◌, ◌≤◌, List, [], ◌∷◌, ◌++◌, length, take, drop, sym, refl, ap, ◌∙◌, append_assoc, arith, length-append}
use Rattle.std.specs.List.{flat_map}
use Rattle.std.proofs.lemmas.List.{append-nil, take_at}
use Rattle.icp.specs.declared.contents.AnswerKind.{AnswerKind}
use Rattle.icp.specs.declared.contents.AnswerKind.TheVariants.{Acknowledgement, CallForWhole}
use Rattle.icp.specs.declared.contents.ReplyKind.{ReplyKind}
use Rattle.icp.specs.declared.contents.ReplyKind.TheVariants.{Hit, Miss}
use Rattle.icp.specs.Numbers.{octets4}
use Rattle.icp.specs.Contents.{changes, whole, query, header, filter_fields, entry_octets, text}
use Rattle.icp.specs.Types.{answer_as, answer_opcode, reply_as, reply_opcode}
use Rattle.icp.specs.Writing.{Written, begins, put_at, changed, listed}
use Rattle.icp.proofs.Puts.{put_first, begins_again, message_is}
use Rattle.icp.proofs.Changes.{length_joined}

-- a text is one octet longer than its name
length_text : (name : List ℕ) → length (text name) ≡ length name + 1
length_text name = length-append name (0 ∷ [])

module _ (m n s r op : ℕ) (head xs out : List ℕ) where
  alone : out ≡ put_at xs 0 head → out ≡ begins (head ++ []) xs
  alone put = put_first head xs out put ∙ ap (λ z. begins z xs) (sym (append-nil head))

  -- an answer is a header alone
  pub answer_written : (k : AnswerKind) (o : ℕ) → op ≡ answer_opcode k → head ≡ header op 20 r o s → out ≡ put_at xs 0 head → Written m (answer_as k s r o) xs out 20
  answer_written Acknowledgement o e is put = message_is m (answer_as Acknowledgement s r o) head [] xs out 20 (is ∙ ap (λ x. header x 20 r o s) e) refl refl (alone put)
  answer_written CallForWhole o e is put = message_is m (answer_as CallForWhole s r o) head [] xs out 20 (is ∙ ap (λ x. header x 20 r o s) e) refl refl (alone put)

  -- a query is a header, the sender once more and a text
  pub query_written : (name sender : List ℕ) → sender ≡ octets4 s → n ≡ 20 + length sender + length name + 1
      → out ≡ begins (header 1 n r 0 s ++ (sender ++ text name)) xs → Written m (query s r name) xs out n
  query_written name sender is long put =
      let size = length_text name in
      let four = ap length is in
      message_is m (query s r name) (header 1 n r 0 s) (sender ++ text name) xs out n refl (ap (λ z. z ++ text name) is) (omega arith) put

  -- a reply is a header and a text
  pub reply_written : (k : ReplyKind) (name : List ℕ) → op ≡ reply_opcode k → n ≡ 20 + length name + 1
      → out ≡ begins (header op n r 0 s ++ text name) xs → Written m (reply_as k s r name) xs out n
  reply_written Hit name e long put =
      let size = length_text name in message_is m (reply_as Hit s r name) (header op n r 0 s) (text name) xs out n (ap (λ x. header x n r 0 s) e) refl (omega arith) put
  reply_written Miss name e long put =
      let size = length_text name in message_is m (reply_as Miss s r name) (header op n r 0 s) (text name) xs out n (ap (λ x. header x n r 0 s) e) refl (omega arith) put

module _ (m s v n : ℕ) (head fields xs out : List ℕ) where
  -- a whole is a header, the fields of the filter and the summary
  pub whole_written : (summary : List ℕ) → head ≡ header 30 n v 0 s → fields ≡ filter_fields m 0 → n ≡ 32 + length summary
      → out ≡ begins (head ++ (fields ++ (summary ++ []))) xs → Written m (whole s v summary) xs out n
  whole_written summary is are long put =
      message_is m (whole s v summary) head (fields ++ (summary ++ [])) xs out n is (λ j. are j ++ append-nil summary j) (omega arith) put

  -- a change list is a header, the fields of the filter and the entries
  pub list_written : (a b first : List ℕ) (count : ℕ) → head ≡ header 20 n v (v - 1) s → fields ≡ filter_fields m count → count ≡ length (changed a b m) → n ≡ 32 + 4 * count
      → first ≡ begins (head ++ (fields ++ [])) xs → out ≡ listed first a b m → Written m (changes s v (changed a b m)) xs out n
  list_written a b first count is are count_is long first-is out-is =
      let es = changed a b m in
      let entries = flat_map entry_octets es in
      let p = head ++ (fields ++ []) in
      let thirty : length p ≡ 32 = let l = length-append head (fields ++ []) in let f = ap length (append-nil fields ∙ are) in let h = ap length is in omega arith in
      let front : take 32 first ≡ p = ap (take 32) first-is ∙ take_at p (drop (length p) xs) 32 thirty in
      let more : length p ≤ length (p ++ entries) = let l = length-append p entries in omega arith in
      let size : n ≡ 20 + length (filter_fields m (length es) ++ entries) = let l = length_joined es in omega arith in
      message_is m (changes s v es) head (fields ++ entries) xs out n is ((λ j. are j ++ entries) ∙ ap (λ k. filter_fields m k ++ entries) count_is) size
      (out-is
      ∙ (λ j. begins (front j ++ entries) (first-is j))
      ∙ begins_again p (p ++ entries) xs more
      ∙ ap (λ z. begins z xs) (append_assoc head (fields ++ []) entries ∙ ap (λ z. head ++ (z ++ entries)) (append-nil fields)))
