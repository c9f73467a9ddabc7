-- The settings of the BC346XT keep the rules. Assumes nothing.
use Rattle.std.specs.Prelude.{refl}
use Rattle.std.specs.Fmt.{digits}
use Rattle.common.specs.Scheme.{SchemeKeeps}
use Rattle.common.specs.SchemeLaws.{listed_keeps}
use Rattle.bc346xt.specs.System.{system_puts, system_scheme}
use Rattle.bc346xt.specs.Channel.{channel_puts, channel_scheme}
use Rattle.bc346xt.specs.Talkgroup.{talkgroup_puts, talkgroup_scheme}

pub system_keeps : SchemeKeeps system_scheme
unfolding digits
system_keeps = listed_keeps system_puts refl (λ s. refl) (λ s t. refl) (λ s t. refl)

pub channel_keeps : SchemeKeeps channel_scheme
unfolding digits
channel_keeps = listed_keeps channel_puts refl (λ s. refl) (λ s t. refl) (λ s t. refl)

pub talkgroup_keeps : SchemeKeeps talkgroup_scheme
unfolding digits
talkgroup_keeps = listed_keeps talkgroup_puts refl (λ s. refl) (λ s t. refl) (λ s t. refl)
