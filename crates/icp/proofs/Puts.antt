-- Octets put into an output, one part after another.
use Rattle.std.proofs.Common.{◌≡◌, ℕ, ◌+◌, ◌-◌, ◌≤◌, List, [], ◌∷◌, ◌++◌, length, drop, sym, refl, ap, ◌∙◌, append_assoc, zero-add, arith, length-append}
use Rattle.std.proofs.lemmas.List.{take_at, drop_at, drop-drop}
use Rattle.icp.specs.Contents.{Content, opcode_of, request_of, data_of, sender_of, body_of, header, text, written}
use Rattle.icp.specs.Writing.{Written, begins, put_at}

drop_past : (p q : List ℕ) (n : ℕ) → drop (length p + n) (p ++ q) ≡ drop n q
drop_past p q n = sym (drop-drop n (length p) (p ++ q)) ∙ ap (drop n) (drop_at p q (length p) refl)

-- the next part
pub put_next : (p ys xs : List ℕ) → put_at (begins p xs) (length p) ys ≡ begins (p ++ ys) xs
put_next p ys xs =
    let n = length ys in
    ap (λ z. z ++ (ys ++ drop (length p + n) (begins p xs))) (take_at p (drop (length p) xs) (length p) refl)
    ∙ ap (λ z. p ++ (ys ++ z)) (drop_past p (drop (length p) xs) n ∙ drop-drop n (length p) xs)
    ∙ sym (append_assoc p ys (drop (length p + n) xs))
    ∙ ap (λ k. (p ++ ys) ++ drop k xs) (sym (length-append p ys))

-- the same, at a place and an output that are known to be so
pub put_on : (p ys xs now : List ℕ) (at : ℕ) → now ≡ begins p xs → at ≡ length p → put_at now at ys ≡ begins (p ++ ys) xs
put_on p ys xs now at is where-is = (λ j. put_at (is j) (where-is j) ys) ∙ put_next p ys xs

-- the first part
pub put_first : (h xs out : List ℕ) → out ≡ put_at xs 0 h → out ≡ begins h xs
put_first h xs out e = e ∙ ap (λ n. h ++ drop n xs) (zero-add (length h))

-- a header, other octets, a name and a zero octet, put one after another
pub named_put : (h b name xs one two three out : List ℕ) → 20 ≡ length h
    → one ≡ put_at xs 0 h → two ≡ put_at one 20 b → three ≡ put_at two (20 + length b) name → out ≡ put_at three (20 + length b + length name) (0 ∷ [])
    → out ≡ begins (h ++ (b ++ text name)) xs
named_put h b name xs one two three out twenty put_1 put_2 put_3 put_4 =
    let p = h ++ b in
    let at : 20 + length b ≡ length p = let l = length-append h b in omega arith in
    let end : 20 + length b + length name ≡ length (p ++ name) = let l = length-append p name in omega arith in
    let between : two ≡ begins p xs = put_2 ∙ put_on h b xs one 20 (put_first h xs one put_1) twenty in
    let named : three ≡ begins (p ++ name) xs = put_3 ∙ put_on p name xs two (20 + length b) between at in
    put_4
    ∙ put_on (p ++ name) (0 ∷ []) xs three (20 + length b + length name) named end
    ∙ ap (λ z. begins z xs) (append_assoc p name (0 ∷ []) ∙ append_assoc h b (text name))

-- a header and a body are the message of their content
pub message_is : (m : ℕ) (c : Content) (h b xs out : List ℕ) (n : ℕ)
    → h ≡ header (opcode_of c) n (request_of c) (data_of c) (sender_of c) → b ≡ body_of m c → n ≡ 20 + length (body_of m c) → out ≡ begins (h ++ b) xs
    → Written m c xs out n
message_is m c h b xs out n head-is body_is long out-is =
    let all : h ++ b ≡ written m c = (λ j. head-is j ++ body_is j) ∙ ap (λ k. header (opcode_of c) k (request_of c) (data_of c) (sender_of c) ++ body_of m c) long in
    record { long = omega (arith, long); octets = out-is ∙ ap (λ z. begins z xs) all }

-- what was written longer covers what was written before
pub begins_again : (p q xs : List ℕ) → length p ≤ length q → begins q (begins p xs) ≡ begins q xs
begins_again p q xs h =
    let k = length q - length p in
    let e : length q ≡ length p + (length q - length p) = omega arith in
    let f : length p + (length q - length p) ≡ length q = omega arith in
    ap (λ z. q ++ z)
    (ap (λ n. drop n (begins p xs)) e ∙ drop_past p (drop (length p) xs) (length q - length p) ∙ drop-drop (length q - length p) (length p) xs ∙ ap (λ n. drop n xs) f)
