-- The weight of each kind.
-- Assumes nothing.
use Rattle.std.specs.Prelude.{◌≡◌, refl, false, ◌≢◌, ℕ, zero, suc, pos, Float}
use Rattle.std.specs.Float.{fin}
use Rattle.weights.specs.declared.weight.Weight.TheVariants.{None, Full, Part}
use Rattle.capi.specs.PlainAnswers.{weight_of}

pub no_weight : (kind : ℕ) (x : Float) → kind ≡ 0 → None ≡ weight_of kind x
unfolding weight_of
no_weight kind x e = rw e refl

pub full_weight : (kind : ℕ) (x : Float) → kind ≡ 1 → Full ≡ weight_of kind x
unfolding weight_of
full_weight kind x e = rw e refl

pub part-weight : (kind : ℕ) (x : Float) → kind ≡ 2 → Part x ≡ weight_of kind x
unfolding weight_of
part-weight kind x e = rw e refl

pub other_weight : (kind : ℕ) (x : Float) → kind ≢ 0 → kind ≢ 1 → kind ≢ 2 → Part (fin false 1 (pos 1)) ≡ weight_of kind x
unfolding weight_of
other_weight zero x a b c = absurd (a refl)
other_weight (suc zero) x a b c = absurd (b refl)
other_weight (suc (suc zero)) x a b c = absurd (c refl)
other_weight (suc (suc (suc kind))) x a b c = refl
