-- The number goes down with each digit. Assumes nothing.
use Rattle.listing.proofs.text.+digits.Given as goal

abbrev pub decreases-digits : goal.decreases-digits
decreases-digits l = l.x
