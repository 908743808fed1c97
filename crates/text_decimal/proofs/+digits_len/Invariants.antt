-- `text_decimal::digits_len` meets its contract: by recursion on `left`, which falls: with none left, or x below 10, there is
-- one digit, and else one more than x / 10 has (`digits_longer`).
use Rattle.text_decimal.proofs.+digits_len.Given as goal

abbrev pub decreases-digits_len : goal.decreases-digits_len
decreases-digits_len l = l.left
