-- The settings that the makes hold alike keep the rules. Assumes nothing.
use Rattle.std.specs.Prelude.{refl}
use Rattle.std.specs.Fmt.{digits}
use Rattle.common.specs.Scheme.{SchemeKeeps}
use Rattle.common.specs.SchemeLaws.{listed_keeps}
use Rattle.common.specs.Site.{site_puts, site_scheme}
use Rattle.common.specs.Group.{group_puts, group_scheme}
use Rattle.common.specs.Trunk.{trunk_puts, trunk_scheme}

pub site_keeps : SchemeKeeps site_scheme
unfolding digits
site_keeps = listed_keeps site_puts refl (λ s. refl) (λ s t. refl) (λ s t. refl)

pub group_keeps : SchemeKeeps group_scheme
unfolding digits
group_keeps = listed_keeps group_puts refl (λ s. refl) (λ s t. refl) (λ s t. refl)

pub trunk_keeps : SchemeKeeps trunk_scheme
unfolding digits
trunk_keeps = listed_keeps trunk_puts refl (λ s. refl) (λ s t. refl) (λ s t. refl)
