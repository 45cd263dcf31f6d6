-- The theorem itself,
-- which is put together among the lemmas.
use Rattle.tariff.proofs.TariffSound.{tariff_sound}
use Rattle.tariff.proofs.soundness.tariff_is_sound.Goals as goal

pub returns : goal.returns
returns c = tariff_sound
