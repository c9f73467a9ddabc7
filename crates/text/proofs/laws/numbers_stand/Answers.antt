use Rattle.text.proofs.Texts.{decimal_number, decimal_value, value_below}
use Rattle.text.proofs.laws.numbers_stand.Goals as goal

pub returns : goal.returns
returns c = ((λ n h. record { legal = decimal_number n h; back = decimal_value n h }), (λ t h. value_below 5 t h))
