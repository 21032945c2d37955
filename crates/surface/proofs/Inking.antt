-- Painting the bytes of a run inks the picture.
use Rattle.std.proofs.Common.{◌≡◌, ℕ, ◌+◌, ◌-◌, ◌*◌, ◌<◌, ◌≤◌, ◌⊎◌, List, length, get_or, drop, refl, ap, ◌∙◌, inl, inr, ⊎_elim, mul_comm, arith}
use Rattle.std.proofs.lemmas.Nat.{mul-add-lt}
use Rattle.std.proofs.lemmas.Bool.{cases_order, cases_lt}
use Rattle.surface.specs.Bytes.{place, pictured, painted}
use Rattle.surface.specs.Calls.{OnRun, Accepts, Inked}
use Rattle.surface.proofs.Writes.{get_or_painted_on, get_or_painted_before, get_or_painted_behind, drop_painted}

-- a row that lies above another ends before it
rows_apart : (w u v y : ℕ) → v < y → u < w → v * w + u < y * w
rows_apart w u v y lt on = omega (arith, mul-add-lt v w u y lt on, mul_comm w y)

-- on one row, a pixel off the run stands before or behind it
row_apart : (w x y n u v : ℕ) → v ≡ y → (OnRun x y n u v → ⊥) → (place w u v < place w x y) ⊎ (place w x y + n ≤ place w u v)
row_apart w x y n u v e off =
    let same : v * w ≡ y * w = ap (λ (k : ℕ). k * w) e in
    ⊎_elim (λ before. inl (omega arith)) (λ from. ⊎_elim (λ to. absurd (off (record { row = e; from = from; to = to }))) (λ behind. inr (omega arith)) (cases_lt u (x + n))) (cases_lt u x)

-- the byte of a pixel off the run is none of the run's
apart : (w x y n u v : ℕ) → x + n ≤ w → u < w → (OnRun x y n u v → ⊥) → (place w u v < place w x y) ⊎ (place w x y + n ≤ place w u v)
apart w x y n u v end on off =
    ⊎_elim (λ same. row_apart w x y n u v same off)
    (⊎_elim (λ above. inl (omega (arith, rows_apart w u v y above on))) (λ below. inr (omega (arith, rows_apart w (w - 1) y v below (omega arith)))))
    (cases_order v y)

-- a run that is accepted ends within the bytes of the pixels
pub run_ends : (w h x y n ink : ℕ) (xs : List ℕ) → Accepts (pictured w h xs) x y n ink → place w x y + n ≤ w * h
run_ends w h x y n ink xs ok = omega (arith, mul-add-lt y w (x + n - 1) h ok.row (omega arith))

-- where the bytes of the run are painted, the picture is inked
pub inked : (w h x y n ink : ℕ) (xs ys : List ℕ) → w * h ≤ length xs → Accepts (pictured w h xs) x y n ink → ys ≡ painted (place w x y) n ink xs → Inked (pictured w h xs) x y n ink (pictured w h ys)
inked w h x y n ink xs ys room ok e =
    let fits : place w x y + n ≤ length xs = omega (arith, run_ends w h x y n ink xs ok) in
    let taken : (u v : ℕ) → get_or ys (place w u v) 0 ≡ get_or (painted (place w x y) n ink xs) (place w u v) 0 = λ u v. ap (λ (b : List ℕ). get_or b (place w u v) 0) e in
    record {
      sides = record { wide = refl; high = refl };
      on = λ u v on run.
          let row : v * w ≡ y * w = ap (λ (k : ℕ). k * w) run.row in
          taken u v ∙ get_or_painted_on (place w x y) n ink xs (place w u v) fits (omega arith) (omega arith);
      off = λ u v on off.
          taken u v ∙ ⊎_elim (get_or_painted_before (place w x y) n ink xs (place w u v) fits) (get_or_painted_behind (place w x y) n ink xs (place w u v) fits) (apart w x y n u v ok.end on.column off);
      calm = λ u v on off was. refl;
    }

-- painting a run leaves the bytes behind the last pixel's
pub rest_kept : (w h x y n ink : ℕ) (xs ys : List ℕ) → w * h ≤ length xs → Accepts (pictured w h xs) x y n ink → ys ≡ painted (place w x y) n ink xs → drop (w * h) ys ≡ drop (w * h) xs
rest_kept w h x y n ink xs ys room ok e =
    let end : place w x y + n ≤ w * h = run_ends w h x y n ink xs ok in
    ap (λ (b : List ℕ). drop (w * h) b) e ∙ drop_painted (place w x y) n ink xs (w * h) (omega arith) end
