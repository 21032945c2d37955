-- Facts on lists that are laid one after the other, on what holds of each element, and on shuffles. Assumes nothing.
use Rattle.std.proofs.Common.{◌≡◌, ℕ, suc, ◌+◌, Bool, false, cond, List, [], ◌∷◌, ◌++◌, map, length, sum_by, filter, sym, refl, ap, ◌∙◌, arith}
use mathlib.Core.List.Permᴰ
use mathlib.Core.List.{Permᴰ}
use Rattle.std.specs.List.{flat_map, AllByRecursion}
use Rattle.std.proofs.lemmas.List.{append-nil}
use Rattle.std.proofs.lemmas.List.Elements.{filter-append}
use Rattle.std.proofs.ByRecursion.{All-append}
use Rattle.std.proofs.lemmas.List.Sums.{sum_by-cons}
use Rattle.quadratic.proofs.Perms.{perm_same, perm_front}

-- what a filter leaves of lists laid one after the other
pub kept_by_joined : {X Y : Type 0} (p : Y → Bool) (f : X → List Y) (xs : List X) → filter p (flat_map f xs) ≡ flat_map (λ x. filter p (f x)) xs
kept_by_joined p f [] = refl
kept_by_joined p f (x ∷ xs) = filter-append p (f x) (flat_map f xs) ∙ ap (λ z. filter p (f x) ++ z) (kept_by_joined p f xs)

pub kept_by_none : {X : Type 0} (p : X → Bool) (xs : List X) → AllByRecursion (λ x. p x ≡ false) xs → filter p xs ≡ []
kept_by_none p [] h = refl
kept_by_none p (x ∷ xs) h = ap (λ b. cond b (x ∷ filter p xs) (filter p xs)) h.0 ∙ kept_by_none p xs h.1

pub joined_same : {X Y : Type 0} (P : X → Type 0) (f g : X → List Y) → ((x : X) → P x → f x ≡ g x) → (xs : List X) → AllByRecursion P xs → flat_map f xs ≡ flat_map g xs
joined_same P f g same [] h = refl
joined_same P f g same (x ∷ xs) h = ap (λ z. z ++ flat_map f xs) (same x h.0) ∙ ap (λ z. g x ++ z) (joined_same P f g same xs h.1)

pub all_unmap : {X Y : Type 0} (P : Y → Type 0) (g : X → Y) (xs : List X) → AllByRecursion P (map g xs) → AllByRecursion (λ x. P (g x)) xs
all_unmap P g [] h = tt
all_unmap P g (x ∷ xs) h = (h.0, all_unmap P g xs h.1)

pub all_both : {X : Type 0} (P Q : X → Type 0) (xs : List X) → AllByRecursion P xs → AllByRecursion Q xs → AllByRecursion (λ x. P x × Q x) xs
all_both P Q [] h k = tt
all_both P Q (x ∷ xs) h k = ((h.0, k.0), all_both P Q xs h.1 k.1)

pub all_joined : {X Y : Type 0} (P : Y → Type 0) (Q : X → Type 0) (f : X → List Y) → ((x : X) → Q x → AllByRecursion P (f x)) → (xs : List X) → AllByRecursion Q xs → AllByRecursion P (flat_map f xs)
all_joined P Q f each [] h = tt
all_joined P Q f each (x ∷ xs) h = All-append P (f x) (flat_map f xs) (each x h.0) (all_joined P Q f each xs h.1)

-- ---- shuffles

pub perm_swap : {X : Type 0} (xs ys : List X) → Permᴰ (xs ++ ys) (ys ++ xs)
perm_swap xs ys =
    Permᴰ.trans (perm_same (ap (λ z. xs ++ z) (sym (append-nil ys)))) (Permᴰ.trans (perm_front xs ys []) (perm_same (ap (λ z. ys ++ z) (append-nil xs))))

pub perm_append : {X : Type 0} {us vs xs ys : List X} → Permᴰ us vs → Permᴰ xs ys → Permᴰ (us ++ xs) (vs ++ ys)
perm_append {X} {us} {vs} {xs} {ys} p q = Permᴰ.trans (Permᴰ.append_right xs p) (Permᴰ.append_left vs q)

pub perm_length : {X : Type 0} {xs ys : List X} → Permᴰ xs ys → length xs ≡ length ys
perm_length Permᴰ.nil = refl
perm_length (Permᴰ.cons e p) = ap suc (perm_length p)
perm_length (Permᴰ.swap e k) = refl
perm_length (Permᴰ.trans p q) = perm_length p ∙ perm_length q

pub perm_sum_by : {X : Type 0} (f : X → ℕ) {xs ys : List X} → Permᴰ xs ys → sum_by f xs ≡ sum_by f ys
perm_sum_by f Permᴰ.nil = refl
perm_sum_by f (Permᴰ.cons {a} {b} {l₁ = l} {l₂ = m} e p) = sum_by-cons f a l ∙ ap (λ z. f z + sum_by f l) e ∙ ap (λ n. f b + n) (perm_sum_by f p) ∙ sym (sum_by-cons f b m)
perm_sum_by f (Permᴰ.swap {a} {b} {a'} {b'} {l} e k) =
    let s = sum_by-cons f a (b ∷ l) in
    let u = sum_by-cons f b l in
    let v = sum_by-cons f a' (b' ∷ l) in
    let w = sum_by-cons f b' l in
    let x = ap f e in
    let y = ap f k in
    omega arith
perm_sum_by f (Permᴰ.trans p q) = perm_sum_by f p ∙ perm_sum_by f q
