-- Lists of rows that have no row in common. Assumes nothing.
use Rattle.std.proofs.Common.{◌≡◌, ℕ, List, [], ◌∷◌, ◌++◌, map, sym, refl, ap, ◌∙◌, subst}
use mathlib.Core.List.{Permᴰ}
use Rattle.std.specs.List.{flat_map, AllByRecursion}
use Rattle.std.proofs.ByRecursion.{All-append}
use Rattle.quadratic.proofs.Perms.{perm_all}
use Rattle.node_rows.specs.Nodes.{Off, Distinct}

-- ---- what holds of each element

pub map_same : {X Y : Type 0} (f g : X → Y) (xs : List X) → AllByRecursion (λ x. f x ≡ g x) xs → map f xs ≡ map g xs
map_same f g [] h = refl
map_same f g (x ∷ xs) h = ap (λ y. y ∷ map f xs) h.0 ∙ ap (λ ys. g x ∷ ys) (map_same f g xs h.1)

pub joined_map : {X Y Z : Type 0} (f : Y → List Z) (g : X → Y) (xs : List X) → flat_map f (map g xs) ≡ flat_map (λ x. f (g x)) xs
joined_map f g [] = refl
joined_map f g (x ∷ xs) = ap (λ l. f (g x) ++ l) (joined_map f g xs)

pub all_unappend : {X : Type 0} (P : X → Type 0) (xs ys : List X) → AllByRecursion P (xs ++ ys) → AllByRecursion P xs × AllByRecursion P ys
all_unappend P [] ys h = (tt, h)
all_unappend P (x ∷ xs) ys h = let k = all_unappend P xs ys h.1 in ((h.0, k.0), k.1)

pub all_unjoined : {X Y : Type 0} (P : Y → Type 0) (f : X → List Y) (xs : List X) → AllByRecursion P (flat_map f xs) → AllByRecursion (λ x. AllByRecursion P (f x)) xs
all_unjoined P f [] h = tt
all_unjoined P f (x ∷ xs) h = let k = all_unappend P (f x) (flat_map f xs) h in (k.0, all_unjoined P f xs k.1)

-- ---- no row of the one list is in the other

abbrev pub Apart : List ℕ → List ℕ → Type 0
Apart xs ys = AllByRecursion (λ x. Off x ys) xs

pub apart_flip : (xs ys : List ℕ) → Apart xs ys → Apart ys xs
apart_flip [] ys h = none ys
  where
    none : (zs : List ℕ) → AllByRecursion (λ y. Off y []) zs
    none [] = tt
    none (z ∷ zs) = (tt, none zs)
apart_flip (x ∷ xs) ys h = both ys h.0 (apart_flip xs ys h.1)
  where
    both : (zs : List ℕ) → Off x zs → Apart zs xs → Apart zs (x ∷ xs)
    both [] a b = tt
    both (z ∷ zs) a b = (((λ e. a.0 (sym e)), b.0), both zs a.1 b.1)

pub distinct_parts : (xs ys : List ℕ) → Distinct (xs ++ ys) → Distinct xs × Distinct ys × Apart xs ys
distinct_parts [] ys h = (tt, h, tt)
distinct_parts (x ∷ xs) ys h =
    let k = distinct_parts xs ys h.1 in
    let o = all_unappend (λ y. x ≡ y → ⊥) xs ys h.0 in
    ((o.0, k.0), k.1, (o.1, k.2))

pub distinct_append : (xs ys : List ℕ) → Distinct xs → Distinct ys → Apart xs ys → Distinct (xs ++ ys)
distinct_append [] ys a b c = b
distinct_append (x ∷ xs) ys a b c = (All-append (λ k. x ≡ k → ⊥) xs ys a.0 c.0, distinct_append xs ys a.1 b c.1)

pub distinct_joined : {X : Type 0} (f : X → List ℕ) (x : X) (xs ys : List X) → Distinct (flat_map f (xs ++ (x ∷ ys))) → Distinct (f x)
distinct_joined f x [] ys h = (distinct_parts (f x) (flat_map f ys) h).0
distinct_joined f x (z ∷ xs) ys h = distinct_joined f x xs ys (distinct_parts (f z) (flat_map f (xs ++ (x ∷ ys))) h).1

pub perm_distinct : {xs ys : List ℕ} → Permᴰ xs ys → Distinct xs → Distinct ys
perm_distinct Permᴰ.nil h = tt
perm_distinct (Permᴰ.cons {a} {b} {l₂ = m} e p) h = (subst (λ z. Off z m) e (perm_all (λ k. a ≡ k → ⊥) p h.0), perm_distinct p h.1)
perm_distinct (Permᴰ.swap {a} {b} {a'} {b'} {l} e k) h =
    (((λ z. h.0.0 (e ∙ sym z ∙ sym k)), subst (λ z. Off z l) k h.1.0), (subst (λ z. Off z l) e h.0.1, h.1.1))
perm_distinct (Permᴰ.trans p q) h = perm_distinct q (perm_distinct p h)
