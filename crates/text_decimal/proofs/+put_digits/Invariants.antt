-- `text_decimal::put_digits` meets its contract: by recursion on `left`, which falls: the digits of x / 10 are put first, one byte fewer
-- (`digits_longer`), so the last digit has room behind them (`put_next`).
use Rattle.text_decimal.proofs.+put_digits.Given as goal

abbrev pub decreases-put_digits : goal.decreases-put_digits
decreases-put_digits l = l.left
