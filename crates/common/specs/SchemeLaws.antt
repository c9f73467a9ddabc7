-- Settings that keep the rules, by a list of their values after a text. Assumes nothing.
use Rattle.std.specs.Prelude.{◌≡◌, ℕ, List, length, map}
use Rattle.std.proofs.Common.{cond, ap, get_or}
use Rattle.make.specs.Data.{starts_in}
use Rattle.sorts.specs.Plans.{Row, fields_from}
use Rattle.sorts.proofs.Putting.{shown_by, replaced, put_shown}
use Rattle.common.specs.Scheme.{SchemeKeeps, listed}

-- each of those values shows the text in its field alone
pub listed_keeps : {S : Type 0} {rows : List Row} {first : ℕ} {blank : S} {texts : S → List (List ℕ)} (puts : S → List ℕ → List S) → texts blank ≡ starts_in (fields_from rows) → ((s : S) → length (texts s) ≡ length (fields_from rows)) → ((s : S) (t : List ℕ) → length (shown_by rows t) ≡ length (texts s)) → ((s : S) (t : List ℕ) → map texts (puts s t) ≡ replaced (texts s) (shown_by rows t)) → SchemeKeeps (listed rows first blank texts puts)
listed_keeps {rows = rows} {texts = texts} puts starts counts widths shows = record {
  counted = counts;
  started = starts;
  accepted = λ s f t h. put_shown texts rows s (puts s t) t (shows s t) (widths s t) f h;
  refused = λ s f t h. ap (λ b. cond b (get_or (puts s t) f s) s) h;
}
