-- Laws of what writing leaves in a list of bytes.
use Rattle.std.proofs.Common.{◌≡◌, ℕ, ◌+◌, ◌-◌, ◌<◌, ◌≤◌, List, [], length, get_or, take, drop, replicate, ◌∙◌, arith, rules}
use borrow.Rule.Slice.PartMut.{put_mid}
use Rattle.std.proofs.lemmas.List.{append-nil, drop-drop, drop_all, take_rest, length-replicate, places}
use Rattle.std.proofs.lemmas.Slice.{drop-put_mid}
use Rattle.surface.specs.Bytes.{filled, painted}

-- filling the part from the start on paints the whole
pub filled_part : (start n ink : ℕ) (xs ys : List ℕ) → start + n ≤ length xs → ys ≡ filled n ink (take (length xs - start) (drop start xs)) → put_mid start (length xs - start) xs ys ≡ painted start n ink xs
filled_part start n ink xs ys h e =
    let none : drop (length xs - start) (drop start xs) ≡ [] = drop-drop (length xs - start) start xs ∙ drop_all (start + (length xs - start)) xs (omega arith) in
    rw (e, none, append-nil, take_rest, drop-drop)

pub get_or_painted_on : (start n ink : ℕ) (xs : List ℕ) (k : ℕ) → start + n ≤ length xs → start ≤ k → k < start + n → get_or (painted start n ink xs) k 0 ≡ ink
get_or_painted_on start n ink xs k h from to = search (rules, places)

pub get_or_painted_before : (start n ink : ℕ) (xs : List ℕ) (k : ℕ) → start + n ≤ length xs → k < start → get_or (painted start n ink xs) k 0 ≡ get_or xs k 0
get_or_painted_before start n ink xs k h lt = search (rules, places)

pub get_or_painted_behind : (start n ink : ℕ) (xs : List ℕ) (k : ℕ) → start + n ≤ length xs → start + n ≤ k → get_or (painted start n ink xs) k 0 ≡ get_or xs k 0
get_or_painted_behind start n ink xs k h le = search (rules, places)

pub drop_painted : (start n ink : ℕ) (xs : List ℕ) (k : ℕ) → start + n ≤ length xs → start + n ≤ k → drop k (painted start n ink xs) ≡ drop k xs
drop_painted start n ink xs k h le =
    rw (← drop-drop n start xs) (drop-put_mid start n xs (replicate n ink) k le (omega arith) (length-replicate n ink))
