-- Texts and where each stops: the machine says the same.
use Rattle.std.specs.Prelude.{Bool, true, ◌&&◌, List, [], ◌∷◌, ℕ, T, eqb}
use Prim.Native.String.{String}
use Rattle.import_grammar.specs.Ascii.{ascii}
use Rattle.import_grammar.specs.Reader.{begin, run, step, step_on, step_mid, finish, extended, cextended, close_left, close_cond, colon, else_here}
use Rattle.import_grammar.specs.Reader.{joined, ending, close_const, minus_here, cminus_here, core_here, factor_here, equals_here, equals_above, begin_cond}
use Rattle.import_grammar.specs.Reader.{begin_sum, open_behind, open_const, item_here, resulted, letter_here, settled, hextended, iextended, by_kind}
use Rattle.import_grammar.specs.Reader.{quote_here, with_plain, char_here}
use Rattle.import_grammar.specs.laws.Viable.{Outcome, fine, stops, scan, concluded}

place : Outcome → ℕ
place (fine t) = 1000000
place (stops i) = i

-- a text and its place; 1,000,000 for a text of the grammar
record Row : Type 0 where
  bytes : List ℕ
  place : ℕ

row : String → ℕ → Row
row w i = record { bytes = ascii w; place = i }

agree : List Row → Bool
unfolding place scan
agree [] = true
agree (r ∷ l) = eqb (place (scan begin r.bytes 0)) r.place && agree l

-- one name that unfolds all that the rows compute with
unfoldable scanning : Unit {0}
unfolding ascii agree place row scan concluded run step step_on step_mid finish extended cextended close_left close_cond colon else_here joined ending close_const
    minus_here cminus_here core_here factor_here equals_here equals_above begin_cond begin_sum open_behind open_const item_here resulted letter_here settled hextended
    iextended by_kind quote_here with_plain char_here
scanning = tt

-- Traps, each with the byte that it stops at: brackets of conditions and of sums, products with a level, white space inside a
-- token, the limits. All stand behind "site m=2n=1A=1W=1 ".
traps : List Row
traps =
    -- `rewarf` fails at f
    row "site m=2n=1A=1W=1 rewarf" 23
    -- `L1 => 3` at `=`
    ∷ row "site m=2n=1A=1W=1 reward 1=L1 => 3" 30
    -- `< =` at `=`
    ∷ row "site m=2n=1A=1W=1 reward 1=L1 < = 3" 32
    -- `1 2` at 2
    ∷ row "site m=2n=1A=1W=1 reward 1=else:1 2" 34
    -- `L1*L2` at the second L
    ∷ row "site m=2n=1A=1W=1 reward 1=else:L1*L2" 35
    -- `(1+L1)*(2+L2)` at the L of L2
    ∷ row "site m=2n=1A=1W=1 reward 1=else:(1+L1)*(2+L2)" 42
    -- `else : 5 else` at the l of the second else
    ∷ row "site m=2n=1A=1W=1 reward 1=else : 5 else" 37
    -- a 33rd bracket of a sum at itself
    ∷ row "site m=2n=1A=1W=1 reward 1=else:(((((((((((((((((((((((((((((((((" 64
    -- a 33rd bracket where an atom may stand at itself
    ∷ row "site m=2n=1A=1W=1 reward 1=(((((((((((((((((((((((((((((((((" 59
    -- 32 brackets are in the grammar
    ∷ row "site m=2n=1A=1W=1 reward 1=else:((((((((((((((((((((((((((((((((1))))))))))))))))))))))))))))))))" 1000000
    -- 32 of a condition too
    ∷ row "site m=2n=1A=1W=1 reward 1=((((((((((((((((((((((((((((((((C1)))))))))))))))))))))))))))))))):1;else:0" 1000000
    -- the outer bracket is a condition's and the inner a sum's
    ∷ row "site m=2n=1A=1W=1 reward 1=((L1+2)*3 <= 4 | C1):1;else:0" 1000000
    -- a condition is never multiplied
    ∷ row "site m=2n=1A=1W=1 reward 1=(C1)*3" 31
    -- behind `!` a bracket is no sum's
    ∷ row "site m=2n=1A=1W=1 reward 1=(!L1)*3 <= 4" 31
    -- `!L1 <= 3` negates the comparison
    ∷ row "site m=2n=1A=1W=1 reward 1=!L1 <= 3:1;else:0" 1000000
    -- comparisons do not chain
    ∷ row "site m=2n=1A=1W=1 reward 1=L1 <= 3 <= 4" 35
    -- `2 * -3` at `-`
    ∷ row "site m=2n=1A=1W=1 reward 1=else:2 * -3" 36
    -- but `2 * (-3)` is in the grammar
    ∷ row "site m=2n=1A=1W=1 reward 1=else:2 * (-3)" 1000000
    -- and the right side may begin with a minus
    ∷ row "site m=2n=1A=1W=1 reward 1=L1 <= -3:1;else:0" 1000000
    -- behind a factor with a level no level at all
    ∷ row "site m=2n=1A=1W=1 reward 1=else:L1*(2*(3+L2" 41
    -- a bracket with a level, not only in its last term
    ∷ row "site m=2n=1A=1W=1 reward 1=else:(L1+(1))*L2" 41
    -- and one without
    ∷ row "site m=2n=1A=1W=1 reward 1=else:(1+(2))*L2" 1000000
    ∷ []

agree_traps : T (agree traps)
unfolding traps scanning
agree_traps = tt

-- From here on the places were found by an independent recogniser (Earley's, over the productions). Short texts first.
texts_0 : List Row
texts_0 =
    -- site m=1n=0A=1W=1reward 1=C1 & 2*L1 - 3*L2 <= 40 : 50 ; else : 0
    row "site m=1n=0A=1W=1reward 1=C1 & 2*L1 - 3*L2 <= 40 : 50 ; else : 0" 1000000
    -- the empty text
    ∷ row "" 0
    -- site m=1 2
    ∷ row "site m=1 2" 9
    -- site m=1n=0A=2W=1chance 1 N5
    ∷ row "site m=1n=0A=2W=1chance 1 N5" 27
    -- site m=1n=0A=2W=1end=C5
    ∷ row "site m=1n=0A=2W=1end=C5" 22
    -- site m=1n=0A=2W=1end=else:forbidden end
    ∷ row "site m=1n=0A=2W=1end=else:forbidden end" 39
    -- site m=1n=0A=2W=1end=else:L9
    ∷ row "site m=1n=0A=2W=1end=else:L9" 27
    -- site m=1 n=0 A=1 W=1 name 1 "12345678901234567
    ∷ row "site m=1 n=0 A=1 W=1 name 1 \"12345678901234567" 45
    -- site m=1 n=0 A=1 W=1 name 1 "1234567890123456""
    ∷ row "site m=1 n=0 A=1 W=1 name 1 \"1234567890123456\"\"" 46
    -- site m=1 n=0 A=1 W=1 nope
    ∷ row "site m=1 n=0 A=1 W=1 nope" 22
    -- site m=1 n=0 A=1 W=1rewarf
    ∷ row "site m=1 n=0 A=1 W=1rewarf" 25
    -- site m=1 n=0 A=2 W=1 name 1 "Hold" name 2 "Releasd"
    ∷ row "site m=1 n=0 A=2 W=1 name 1 \"Hold\" name 2 \"Releasd\"" 1000000
    -- \r\nsite\nm=7 n=7\r\nA=0 W=10reward\n7 = !!C2\t|\n!(\n!C4\r\n|!!0\n*0\n< L1\r\n*\t1\r\n*\t1) : e-(1+L4 )\n+\tL4-\r\n(\r\n2)*2\r\n;else :forbidden
    ∷ row "\r\nsite\nm=7 n=7\r\nA=0 W=10reward\n7 = !!C2\t|\n!(\n!C4\r\n|!!0\n*0\n< L1\r\n*\t1\r\n*\t1) : e-(1+L4 )\n+\tL4-\r\n(\r\n2)*2\r\n;else :forbidden" 76
    --  sitem\n= 7n=10A=\t1 W=2chance\t1 N4\n=else:forbidden\n
    ∷ row " sitem\n= 7n=10A=\t1 W=2chance\t1 N4\n=else:forbidden\n" 1000000
    -- site\tm\t= 2 n=7 A=7 W1\t
    ∷ row "site\tm\t= 2 n=7 A=7 W1\t" 20
    -- \nsitem=1\tn=0A=10" W=10
    ∷ row "\nsitem=1\tn=0A=10\" W=10" 16
    -- sitem=\n10\r\nn=2 A=1 W=0
    ∷ row "sitem=\n10\r\nn=2 A=1 W=0 " 1000000
    -- \nfite\tm\n=\r\n10 n=7\tA=1 W=10\nname1\t"((""Z (Z"""" ""~Z~"""
    ∷ row "\nfite\tm\n=\r\n10 n=7\tA=1 W=10\nname1\t\"((\"\"Z (Z\"\"\"\" \"\"~Z~\"\"\"" 1
    -- \nsite m\n=\r\n7n=10A=\t1 W=0\nend= else:L1+L8-\t7 reward\r\n10\n=\nelse\n:L4
    ∷ row "\nsite m\n=\r\n7n=10A=\t1 W=0\nend= else:L1+L8-\t7 reward\r\n10\n=\nelse\n:L4" 1000000
    -- sie\nm\t=0\tn=0A=2 W=10
    ∷ row "sie\nm\t=0\tn=0A=2 W=10" 2
    ∷ []

agree_0 : T (agree texts_0)
unfolding texts_0 scanning
agree_0 = tt

-- Random texts, many of them with a byte put in, taken out or changed.
texts_20 : List Row
texts_20 =
    row "\tsitem\n=2 n=10A=2 W=2 reward\r\n0\r\n=\nmlse : 1*\nL6\n+ L8 *\n(\r\n7*\t0\t)-\tL6*0" 35
    ∷ row "site m=10\tn=7A=2 W=2en+\r\n=!!C4\n&L2\n>\r\n(\tL6 *\r\n10 *\r\n10):\r\n-0*\t2*\tL7\r\n;else :\nL7\t+L2" 22
    ∷ row "site\nm =\r\n0n=0A=2 W=1\nname 10\"" 30
    ∷ row " site m=\t7\r\nn=0 A=\r\n1 W=10cha(ce\r\n10N2=\r\nelse: 7*(\tL3\r\n+L8 *" 29
    ∷ row "\r\nsite\r\nm\r\n=\t1\nn=1A=9\t10 W=7\tnext10L4 =\telse:(0\r\n)*0*(0 *\r\n2 *\r\n10\n)+\r\n( -1\r\n*\r\n7\n)-L6\r\n" 22
    ∷ row "site\nm=7\nn=7A=\n1 W=7\t<ame\r\n0\"Z\" " 21
    ∷ row "siteNm=7n=1A=\n7 W=0 " 4
    ∷ row "\r\nsite\tm =\n7\tn=0A=10 +W=10name\n10 \" \"\n" 21
    ∷ row "\nsitem=1n=1A=\t7 W=0reward\r\n7\n= else :forbidden\n" 1000000
    ∷ row "\nsite\nm =\n10n=2A=\r\n10 W=10 reward1 =else:(\n7-2*1\t-\t1)*\n(\t2 *7 +\t1\n+2)" 1000000
    ∷ row "sitem\t= 2n=1A= 1 W=2\nname0\" 0aaZ ~Z (Z(~~a~ (\"\n" 43
    ∷ row "\nsitem=2\r\nn=1\r\nA= 7 W=0" 1000000
    ∷ row "sitem\r\n" 7
    ∷ row "site m=\n10n=7 A= 0 W=0 \tname\n2*\"~a( 0 (0 0\"\"Z0ZZ\"\r\n" 30
    ∷ row "\nsite\tm\r\n=7\nn=0\r\nA=\t1!0 W=10" 21
    ∷ row " site\tm =\r\n0 n=2\tA=\t0 W=\r\nname c\"0\"\"a(Za~ \"\"Z(aZ( ~\" " 26
    ∷ row " site\tm\r\n= 7\r\nn=10A=\n1 W=7reward\t2= !!( 7\t* 0) *2 *1\" +\n0<=\r\nL6 & !N3\r\n|\n2\t-(\r\n1\n-\t7*1) <7*\r\n7:\n10\t*\r\nL6;\tels" 52
    ∷ row "\r\nsite\nm\n=10\nn=1A=\n2 W=7 reward 10=(!-7*\r\n1<L2-10) |!C3:\n(-2*\r\n11*\r\n1\t-\n1\n*2) *(\n7+\t0 ) *1-1;\r\nelse: -L3" 1000000
    ∷ row "\tsit\nm\t= 0\tn=1A=2 W=10chance\t7\nN2\t=\t!!( C4\r\n)" 4
    ∷ row "sitem=7\r\nn=7 A=10 W=1\r\nreward 0 =\telse\r\n:\t-L3-\r\nL7\t*10next0L8\t=\nelse\r\n:10*\t(\t10" 79
    ∷ []

agree_20 : T (agree texts_20)
unfolding texts_20 scanning
agree_20 = tt

texts_40 : List Row
texts_40 =
    row " site\tm =\t7 n=10\tA=\n10 W=0\tnext 1L5=\nelse\n:\n-0\n-(\n2\t*\r\n2\t*\r\nL8)\t* (\t7+2\n* 1\t-\t10*\r\n1*\r\n0\n)\t* ( 0* 0-1 -7\n*\n0\n)" 1000000
    ∷ row "\u{7f}\nsite\r\nm\n=1n=0A=0 W=1" 0
    ∷ row "\r\nsit\u{7f}d=\n2\tn=2A=\r\n1 W=10\treward\n10\n=else\n:7 *1 -\n(0\t*\t0\t*\t7\n)\r\n*\r\n(0\r\n* 0\r\n* 10)\t" 5
    ∷ row "\r\nsitem=\n0n=NA=1 W=2reward0 =\nelse:forbidden\r\n" 12
    ∷ row "\r\nsite\r\nm\n=\r\n10\tn=7A= 10 W=2\nend=ls" 33
    ∷ row "\tsite m\t=10n=10\nA=\n1 W=" 23
    ∷ row "sitem =\r\n2\tn=10 A=0 W=10 end\n=else\n:10\n*LC8\r\n-L3 " 41
    ∷ row "sitem =0n=1 A=1 W=1" 1000000
    ∷ row "\ts>ite\tm=\n1n=2 A=7 W=0" 2
    ∷ row "\tsitem = 1\r\nn=0\nA=10 W=10end =el\rse\n:L6\r\r\n+\n1*\t0\n+L6" 32
    ∷ row "\nsite\nm\r\n=\r\n7\r>n=10 A=2 W=10\r\nreward 2=\nelse\r\n:\t-L3-\t0\n" 14
    ∷ row "site\tm 2 n=2A=\t10 W=0end= lse:\r\n( 7*7+0\n+2\n*2\n*7)*L2*0 " 7
    ∷ row "\r\nsite\nm\t=\t7\nn=10A=\r\n1 W=0\r\nnext0 L3\n=\nelse\t:\r\n1 *(-1\n*\t10 ) *(L7\t+ 0\n*L6\n*1 +L4)\t" 1000000
    ∷ row "\nsite\r\nm= 10n=10\r\nA=10 W=7\tname1\n\"\"\"  a\"\"a~0Z( aa Z \"" 1000000
    ∷ row "sitem=0 n=1A=\t0 W=1next\t10\r\nL5= else:(10)\n*2+ L2\nend= (C3\n) :\r\n(\r\nL3-10\n*\t0\n*\t2 -\n1\r\n*\t2\r\n*\t10\n)\n+\r\nL3\n;else:\r\nL5\t* 10\t* 0\n" 1000000
    ∷ row "\nsitem= 10n=2A=7 W=10 " 1000000
    ∷ row "sitem\n=\t7n=1A= 10 W=7 chance7\tN2\t=else :\t0*0+\r\n(2\r\n*\n7\n-\t1+\t10\r\n)\tnext\t7\r\nL1= else\n:\t-0\r\n" 1000000
    ∷ row "\tsite\tm\r\n= 10n=1 A= 7 W=0" 1000000
    ∷ row "site\r\nm=1 n=7A=\t0 W=7name1\"a 0a(0\"\"a0~\"\r\"~(a((\" " 40
    ∷ row "\r\nsite\r\nm\n=2n=0\tA=\r\n2 W=7 name\r\n1\n\"~\"\tend=!!( L7\n*2-\r\n10*2<=\r\n-L3\r\n+\n2* 7* 2) : L4\t;\telse:\r\n-L1\r\n" 1000000
    ∷ []

agree_40 : T (agree texts_40)
unfolding texts_40 scanning
agree_40 = tt

texts_60 : List Row
texts_60 =
    row "site\r\nm\r\n=\r\n10\r\nn=10 A=10 W=2" 1000000
    ∷ row "\tsitem=\t1\tn=10A=\t7 W=1 next2\r\nL7=else:( L1-\n1*7*L7)\t*\n2\t*\n7+\t( 0\r\n*L3\r\n*2\t)+1\n" 1000000
    ∷ row "sitem=\n2=1 A=2 W=20\r\n" 8
    ∷ row "\tite m=\t10n=1A= 2 W=1\n" 1
    ∷ row "site\tm\r\n= 1n=1A=\t10 W=7" 1000000
    ∷ row "\nsite\r\nm = 0\tn=0A=1 W=0\nname 1\"~\"\"a0(Z0(0~Z(~(0\"\r\n" 1000000
    ∷ row "site\nm\n=\r\n7n=1 A=2 W=10chance1 N3\n=else\n:\t2\t* L5 end =\nelse\n:\n(\r\n10+10 )\r\n" 1000000
    ∷ row "\tsite\tm\r\n=7n=0\tA=\n1 W=10end = else:(L6- L2\r\n+L8)-\tL4+\r\nL5" 1000000
    ∷ row " site\r\nm\t=\t10n=0 A= 2 W=0 end\n=\relse\r\n: forbidden" 1000000
    ∷ row "site\r\nm =10n=2\tA=\t1 W=10" 1000000
    ∷ row "\nsite\nm\t=\t7 n=10 9=\t0 W=7\nname\n2\r\n\n\"0~a\"" 17
    ∷ row "\nsite m= 0n=7\nn= 1 W=2" 14
    ∷ row "site\nm=\t2a=2\tA=\r\n1 W=1 chance0N4= else:2*\r\n10*\n1end = else\n: forbidden" 9
    ∷ row "\tsitem\t2\tn=10 A=0 W=7 reward\t2\t=\nelse:7" 7
    ∷ row "stem\t=2\r\nn=1\r\nA= 10 W=0" 1
    ∷ row "site\tm=\t10\tn=0\tA= 7 W=7 name2\"\"\" Z0 0~a ZZ\"\"r(~~0\"\t" 48
    ∷ row "site\nm\n= 7\r\nn=7A=\n7 W=2" 1000000
    ∷ row "sitem=\t1 n=1 A=0 W=2\nchance 7N1\t=else\r\n:\r\n2\n*\r\n2\n*\r\n1+0\n*\tL5\rfchance7N1\n=\telse\r\n:-(\r\n7*2\t-\t7)-1\t*2\t*(10*\n2\n)\t" 61
    ∷ row " site\r\nm = 7\tn=2\nA=0 W=1 name\t1\r\n\"" 34
    ∷ row "\nsitem= 10n=7\nA=7 L=10\r\nreward\t2=else :\n-(1*\r\n10*\r\n2\n)* 10 name7\"~~a0(0aa\"\"\"\"0 ~0a\"" 18
    ∷ []

agree_60 : T (agree texts_60)
unfolding texts_60 scanning
agree_60 = tt

texts_80 : List Row
texts_80 =
    row "\r-site\r\nm=\t0\tn=7\r\nA=10 W=10 " 1
    ∷ row "\nsitem\t=7 n=2A=0 W" 18
    ∷ row " " 1
    ∷ row "\nsit\re m=2 n=1A= 7 W=7name 0 \"\"end=(1>\n2\r\n*7\n) &-7\n*\n7r\n*\nL2< (\r\n1*\n1*\n2\n)|\r\n(0\r\n) > L8\n:forbidden;else\n:\nL4+7\t*\r\n7\t*\r\n2 " 4
    ∷ row "site\tm=\r\n10n=0A=1 W=1\nnext\r\n0\tL2= else:\r\n-(\n10-0 * 1\r\n)\t* L4\n+\r\nL3*\n0\r\n" 1000000
    ∷ row "\nsite\tm\n=\n2\tn=1 A=\r\n0 W=0\tend=else\r\n:\n(-L7*1 -\r\nL7*\r\n1\r\n)\t" 1000000
    ∷ row "\nsitem\r\n=\t2n=2A= 10 W=0next0L4=10*\t2<=L6\r\n-\r\n0\r\n:\r\n(-1*0\t-2 *\t2 *\t10) *(\tL2\r\n) ;\r\nelse:\tforbidden" 1000000
    ∷ row "site m\n= 1 n=2A=7 W=2\tnext7L2=else:(\n-2*\n7*\n10\r\n)*\r\nL7*\r\n7\t" 1000000
    ∷ row "sitem=2\r\nn=0 =\n0 W=2next\r\n1\r\nL5\n=\r\nelse :(\r\n7* 1* 2- 10-\n0)-\n1 *\n10-\t10\n" 13
    ∷ row "sitem\r\n=0\r\nn=7\r\nA=\n0 W=1\nreward\t0\r\n= (\t-1L6\t<\n-L6&!N2)& 7\r\n*\r\n( 7)\r\n*\r\n2\r\n<=-1-L1\t+\r\n1\r\n*2\t:forbidden\n;\telse\t:L4-L1\n" 41
    ∷ row "site m=2" 8
    ∷ row "\r\nsite\nm=10n=1d=0 W=2reward\t2\t=else: forbidden" 14
    ∷ row "\r\nsite\r\nm\t= 0n=0\r\nA=\n1 W=2\tn\text\n10L8=\telse:\tforbidden " 28
    ∷ row "sitem =\r\n0\tn=1\nA=\t1 W=0\r\nnext1L5=else: 10 *10\nend\t=else :\r\nforbidden" 1000000
    ∷ row "site\r\nm\t=\n1\tn=10A=\t0 W=0 chance2\nN4 =\nelse\t:( 2\n+\n10 *\r\n0 *\r\n10\t+\t1) * L7 * 10\n+\nL2\r\n" 1000000
    ∷ row "\nsite\nm\n= 7\r\nn=10\tA= 0 W=0" 1000000
    ∷ row "site\nm\t= 1n=10A=\r\n1 W=10end\t=\telse\t:\r\n-2\n* (\r\n-10*7*2)\n* 10 +10\r\n*\t2\r\n*\t(\tL8*0*10\r\n) " 1000000
    ∷ row "\r\nsitewm =\n0n=1" 6
    ∷ row "sitem=\t0 n=1A=2 W=2name\r\n10 \"aZ\"\"(aZ(~( (\"\"( Z\"\"0\"end=else :-L8-7\r\n" 48
    ∷ row "site\nm\r0=\n2\r\nn=7A=10 W=10\r\nreward\n0 =\telse\t:\t(\r\n0-\t2\t*7 -\r\n2 )\t*\n7" 7
    ∷ []

agree_80 : T (agree texts_80)
unfolding texts_80 scanning
agree_80 = tt

texts_100 : List Row
texts_100 =
    row "sie\r\nm=\r\n7\r\nn=1A=\n7 W=0\t" 2
    ∷ row " sitem=2\r\nn=10\tA= 2 W=7next 10L2=L1<L3*7*1+(2\n*1)\r\n+\tL5:\r\nL6 ;\r\nelse :\n-7-10*7*L6-\r\n( L6+\r*\n7)\n" 90
    ∷ row "\r\nsitem=1 n=2 A=1 W=0chance\n2N3=\nelse:7+\"\n(-10-0*10+7\t*\n2\t)\r\n*10\n+\r\n(\r\n7 *2- 1 *\n2 *\n7\r\n+1\n)\r\n*0\r\n*L7\t" 40
    ∷ row "\r\nsitesm\r\n=1\tn=10\nA= 7 W=1c" 6
    ∷ row "\nsit\r\nm\n=0\r\nn=10\tA=1 W=2\r\nchane\r\n1N3=else:\r\nforbidden " 4
    ∷ row " site\nm\n=1n=0\tA=10 Wr=7" 20
    ∷ row "\tsite\tm =\r\n7\tn2A= 10 W=0" 14
    ∷ row "siter\t=\n1\tn=2\nA=0 W=7\nreward\n7\n=else\n:(\n7-10)+ L6\n" 4
    ∷ row "\tsite\tm\r\n= 2n=0A=7 W=10\nname7\t\"\"\"( 0aaa~( \"\"0~(ZZ\"reward2=else\r\n:\nL4" 1000000
    ∷ row "\nsitem=\r\n7\tn=7\nA=10 W=7name2\"a0~(a 0ZZ~0 Z(0\"next\t2\r\nL5\t=else:L6-\r\n10\n*0\n*10\n" 1000000
    ∷ row "site\tm\r\n=\n2\r\nn=1A= 1 W=0 chance2\r\nN1 =\nelse:\n-7 *(\t10+" 54
    ∷ row " site\nm\n=\r\n0\r\nn=1A= 1 W=1\nnext\r\n10L4 =\nelse :\r\nforbiddenend= C4\n:fo-rbidden; else :-L6\r\n-10*(0 - 0 *\t10\n-10)*0+0 " 67
    ∷ row "\nsitem\n= 0\r\nn=2\tA=\t0 W=10\r\nend=\r\nelse:forbiddennext\n7 L7=!!N4\r\n:\r\n(\n10\t-7 * 10 ) * 1; e&lse\n:( 1\n*\n2+2\r\n)-\n0*1*L1\r\n" 87
    ∷ row "sitem\t= 0n=1A= 1 W=7\r\nend=\nelse\n:\r\n(\r\n7\r\n*7 ) *L1\r\n-\t(10*\n7)*\n(0)*\n2 -(\t-10*10*0 )\nchance0\tN3\n=C" 96
    ∷ row "\r\nsite\r\nm =\r\n0\nn=7\tA=\n2 W=1name7\t\"\"\"0Zaa aZn0 ~\"\"(0~\"name\r\n10\"~\"\t" 1000000
    ∷ row "sit)m=\r\n2\tn=2A=2 W=7\t" 3
    ∷ row "site\r\nm=1n=0\nA=\r\n10 W=0\r\nname0 \"~(0aa ~~a~0\"\" ~a(Z\"\r\n" 49
    ∷ row "sitem\r\n=0n=2A= 1 W=7chance\t10\tN3\r\n=else\n:\n-L6\r\n+1+1" 1000000
    ∷ row "\tsitem\r\n= 10 n=10\r\nA=\n0 " 24
    ∷ row "\tsite\nm=7n=1A=\r\n10 W=7name\t1\t\"Z0a \"\"(\"\"a\"\"(~\"\"0 a ~\"re" 50
    ∷ []

agree_100 : T (agree texts_100)
unfolding texts_100 scanning
agree_100 = tt

texts_120 : List Row
texts_120 =
    row "sitem\n= 1n=0A=1 W=1\treward\t2=\r\nelse: L4" 1000000
    ∷ row "sitem\n\r\n1\tn=1d=\r\n2 W=1" 8
    ∷ row "\r\nsire\r\nm =1\tn=7A=\t2 W=1reward\n7\t=\nelse\n:\tL7\t-10\t*\nL1\t" 4
    ∷ row "site\r\nm\r\n= 2 n=0\r\nA=1 W=0\nchance0 N4=else :\r\nforbiddenreward7= else: 2 * 7 * 7\r\n+( -0 *\r\n10\n)" 1000000
    ∷ row "\tsitem\r\n=10n=10A=\t0 W=1name\r\n1\"(0 ~a \"\" Z0((( ( \"\t" 1000000
    ∷ row "\rsite m\t= 2n=0A=\n0 W=2chance10\tN2=else\rt\n:1" 39
    ∷ row "site\r\nm\n=2n=1\r\nA=010 W=t0\n" 23
    ∷ row "site\r\nm\t= 7\nn=0 A= 1 W=0" 1000000
    ∷ row "site\r\nm = 7\nn=0A= 10\u{7f}W=2reward\r\n10 =\telse: (-7 )* 2name\r\n2\"(~\"\"a \"\" Za( ~aZZi\"\n" 20
    ∷ row "sit" 3
    ∷ row "\nsNite\tm" 2
    ∷ row "\r\nsitem =7\r\nn=2 A=\n1 )W=2" 21
    ∷ row "\r\ns" 3
    ∷ row "sitem\r\n=2\r\nn=10A=\n0 W=10\r\nname\n10 \"\tZa\"" 35
    ∷ row "\nsite ;m =\t2 n=10A=\r\n7 =0name\t7\"0\" name2 \"a\"" 6
    ∷ row "sitem= 2n=0A=1 W=7\r\nchance1N4=\telse:\r\nL6next\n10\tL5 =else\n:\n(L6\n+\t7 *\n0\r\n+\nL6)" 1000000
    ∷ row " site\r\nm\n=0\r\nn=2\r\nA=\r\n0 W=0next7L3\t=else:2* 7* (L5\r\n*10 + 7)\r\ncha" 65
    ∷ row " site\r\nm=\r\n72=1A=\n1 W=1\tchance10\nN1= else\t:forbidden\tend =else :\r\n-0\n*(1*2*0 -1+1)\n*0-\n1\t*\r\n(\nL3)\n" 13
    ∷ row "sitem =0n=7 A=\r\n0 W=10\nchance" 29
    ∷ row "sitem =0\tn=2\nA=10 W=2\r\nnam\r\n1\"\"\"~(aa  ~a\"\" ((\"\"a\"reward\r\n1\t=else:(2 *\n2+1*\n1\n+0 )-\t0\r\n*1-\t2 " 26
    ∷ []

agree_120 : T (agree texts_120)
unfolding texts_120 scanning
agree_120 = tt

texts_140 : List Row
texts_140 =
    row "\r\nsite\nm\n=0 n=0 A=1 W=2 reward 0=\r\nelse\r\n: forbiddenreward 2\n=else\t:forbidden " 1000000
    ∷ row "\r\nsite m\t=\r\n1)n=10\tA=\r\n10 W=2\r\nchance1N2=\r\nelse:forbidden" 13
    ∷ row "\tsitem\n=\t0n=0\nA=10 W=0end=else : 0\r\n*" 37
    ∷ row "\r\nsitem\n= 10n=\tA=\r\n7 W=7end\r\n=\telse : 2+(\r\n10*\r\n0*\r\n2)\n*(-2\t)\n*0\n-\r\nL4\r\n" 15
    ∷ row "sitem\t=\t0n=10A=0 W=0\tchance2 N2=\telse :L6\r\n" 1000000
    ∷ row "sitem=Cn=1\nA=\r\n2 W=1end\n=\telse: 7\n*\tL3\n*\t10" 6
    ∷ row "esitem =2\r\nn=10\r\nA=\r\n2 W=1reward\r\n2\r\n=else:\t-(\n10 )\r\n*\r\n2\t-\r\n0\r\n" 0
    ∷ row "sitem=0 n=10fA=\n0 W=2\t" 12
    ∷ row "\tsitem\t=\t0 n=7A=\t0 W=10 reward 2=\n!(\n!-7\n- L8+L7\r\n> 0):forbidden\n;\nelse\n:0\n" 1000000
    ∷ row "sitem\r\n=\t7n=0\nA=0 W=10\tchance\t2 N1\r\nelse:( 0 * 7+7\n)\r\n* 2\r\n* 0\nnext10\r\n:7=else:-L7 *(7\t*1\t)\n" 36
    ∷ row "\nsitem=1\nn=2A=\t10 W=0\nname0\" Z\"" 1000000
    ∷ row "1ite\tm=10\tn=0A=\t10 W=2\r\n" 0
    ∷ row "site\nm =2n=7\tA= 7 W=7\tend=else:\r\nforbidden chance7\tN2= else\t:\t2 +1*\t7*\t10" 1000000
    ∷ row "\tsite m=10n=7A=\n2 W=7next1L2=\nelse\n:0\n*(1)\n*0\t-\n0\r\n+\n(\t10* 7\t)*1" 1000000
    ∷ row "\tsitem=0n=7\r\nA=\n0 W=7name\n0\"(Z0 ( aa((0~Z00 \"" 1000000
    ∷ row " sitem\r\n=1n=1\tA=\t2 W=7\r\nend\rd=else:\t0 *(\r\nL2+\t10\r\n*10\r\n*2\t) *0+7 name1\t\"(\"\"aZ( a Za\"\"0(~0\"\"\"" 28
    ∷ row " sitem=\t2n=1\r\nA= 2 Wx=0\t" 20
    ∷ row "\tsite\tm\t= 2\tn=7A=\n7 W=1reward0=\telse:\tforbidden\n" 1000000
    ∷ row "site m\n=\n2 n=1A=\n2 W=7\nname0\"~\"\" ~\"\"\"\" ~\"\"a ~\"\"aw\" " 1000000
    ∷ row " site\r\nm=\r\n2n=2\nA=\t1 W=0name\n1 \"(Z(~Z(00~~( ~0~a\"" 1000000
    ∷ []

agree_140 : T (agree texts_140)
unfolding texts_140 scanning
agree_140 = tt

texts_160 : List Row
texts_160 =
    row "site\r\nm=\n0 n=10 A= 2 W=1\r\nnext\t0\nL4\r\n=\n!!(!L4>\r\n7\t*\t7\t*\t0 +\n2 *\t0\t&!!L1\r\n>L1\r\n|!-2>7\t*L6\t*2 )\t: -L8\t*\n10\t*\n(\t1);\telse :\n-(L6\n" 125
    ∷ row "\r\nsite\r\nm=\r\n0n=7\r\nA= 7 W=0\nnext\r\n0L2 =( 2\r\n*\t10\r\n*\t7\n)\r\n*\t(\n7*0*7)\r\n*\t(10-1\t*\r\n0\t*\r\n2 )+\n1 *2<L8* 0\t+2*2:\n-7; else\n:forbidden" 1000000
    ∷ row " sitem =\t1n=1\r\nA=0 W=1name\t7\n\"~\"\"~ (aa0Za(~(a\" next\n2L7=else\r\n:forbidden" 1000000
    ∷ row "\nsite\tm = 2n=A=7 W=7\t" 13
    ∷ row "sitem\n=0 n=2 A=\r\n0 W=1\n" 1000000
    ∷ row " Cite\tm\n=\n2n=2A=\n7 W=10ne" 1
    ∷ row "\r" 1
    ∷ row "sitem =\t1n=0A=\r\n1 W=10reward10==else:forbid" 31
    ∷ row "\r\nsite\nm\t= 1Nn=0\nA=\r\n7 W=1\r\nchance\r\n0N2\n=else\t:\r\n(10\n* L8\n* 2)\t+L7+ L8\t" 12
    ∷ row "\tsitem=\r\n7n=0\r\nA=1 W=2\r" 1000000
    ∷ row "sitem=1=7A=10 W=2\r\n" 7
    ∷ row "ssite m=7 n=2\r\nA=7 W=7 " 1
    ∷ row "\r\nsite\nm=97 n=0A=2 W=0\r\n" 1000000
    ∷ row "site\nm=0\nn=10 A=\r\n2 aW=0chance0\r\nN1\r\n=-( -1* 10* 1) *0 *(-10\t)<-(2+1\t)*L4-\n( 1* 0* L1\r\n)*\r\n(10\n*10)\t:forbidden\t;\nelse: forbidden" 20
    ∷ row "si" 2
    ∷ row "\nsitem\r\n=7\tn=7A=\r\n7 W=10chance10\tN2 =\nelse : (1*1*L8\t+L8 * 2\t)\n+ 1**\n(\n1*\n2*\n2\t-0*\t10) *\n(\t-1\t*2\t*10+7\t*\t10\n+1)" 67
    ∷ row "\tsite\r\nm\r\n=1n*7A=10 W=1\n" 13
    ∷ row "siitem\r\n=7n=2\r\nA=0 W=1" 2
    ∷ row " sitem\n=\n1\r\nn=1A=\t2 W=7chance2\tN3\n=\telse:L1\n*\t10\n" 1000000
    ∷ row "\r\nsit" 5
    ∷ []

agree_160 : T (agree texts_160)
unfolding texts_160 scanning
agree_160 = tt

texts_180 : List Row
texts_180 =
    row "sitem=\tn=1A=\r\n10 W=10chance1N1= !-(\n0\r\n*1\r\n*1)\t+10>\t(\n-L6\r\n+L4 *\n0- L4*0*0\t)*(\r\n10*1-1-\r\n7*" 7
    ∷ row "sitem\t=0n=0 A=\n0 W=\n0\nend\r\n=\nN3: 2\n;\nelse\r\n:-7\t* 7\n-\r\nL8" 1000000
    ∷ row "site\nm=\r\n0n=0\tA=\n0 W=0end\r\n=\nelse :10\r\n*L5\r\n*7+\t10*\t10*\t1+(\n-0 *10 *0\r\n- 0*\n7*\n1\r\n+ 2\r\n*2\r\n*7 )\r\n* (0 *2 *2\r\nt7\r\n)\r\n" 109
    ∷ row "\r\nsite\r\nm=\t2n=0\r\nA=\t0 W=1name\n" 30
    ∷ row "site m\r\n=10\tn=1A=1 W=0 reward\r\n1\r\n=\r\nelse\r\n:\r\n(10*0\r-\t1*\r\n10*\r\n7\t)* L8end\t=else: forbidden" 1000000
    ∷ row "\r\nsite\nm=\n10n=1\nA=7 W=2chance7N3=else\n:\nrorbidden\r\n" 40
    ∷ row "site\nm=1n=10\nA=" 15
    ∷ row "\nsite\tm=\r\n1\tn=10\nA=\t1f" 21
    ∷ row "site m= 7\r\nn=7\r\nA=2 =2" 20
    ∷ row "\r\nsitem = 0n=2 A=0 W=7chance\n7N3\r\n=else\r\n:10\r\n-\t(\n10\t+\r\n10 - 2)\treward\r\n0= else: forbidden\r\n" 1000000
    ∷ row " sitem=0\nn=1\tA=2 W=2\nreward 2= else:\n~-L3" 37
    ∷ row "sitem\n=\n0n=7A=\r\n0 W=1a" 21
    ∷ row "site\r\nm\r\n=1\tn=0 A=\t2 W=1\t" 1000000
    ∷ row "\nsitem=\t1\r\nn=2\nA=0 W=1name10\"\"\"\"\"~\"\r\n>" 37
    ∷ row " site\r\nm=\r\n0n=10 A=\t1 W=1dame0\"\"" 25
    ∷ row " sitem=\n210 n=10A=\t2 W=7e+nd=else\t:2*\t10\t" 25
    ∷ row "site m\r\n=\r\n1\nn=2 A=7 W=1" 1000000
    ∷ row " sitem=\t10n=2A=0 W=1\r\nchance\n1 N4=else\t:\nforbidden\tchance 10\nN4\r=else:\r\n(0*2\r\n)*\t10*\t7" 1000000
    ∷ row "site\r\nm=\r\n0n=2A=2 W=0" 1000000
    ∷ row "\r\nsite\r\nm\r\n=\r\n2n=0\nA=\n2W=2" 1000000
    ∷ []

agree_180 : T (agree texts_180)
unfolding texts_180 scanning
agree_180 = tt

texts_200 : List Row
texts_200 =
    row "sitem\r\n=1 n=10\tA=\n2 W=0\tchance\r\n1\r\nN1=\telse:\r\nforbiddenreward7\n=else:L4*\n2\t+L6" 1000000
    ∷ row "\nsite\r\nm= 2n=7A=7 W=7 chance\t10\nN2= N3 :(\r\n-1+\t1\n-\t2\t)*\t1*\t2-\r\n7 *L4 *(10)+(-10* 2* 0 );else :\r\nL8\ne+nd=\telse : ( 1\r\n+ 7)\r\n" 100
    ∷ row "\r\nsitem=\n10\tn=0A=10 W=1\nnext 10 L6\t=else :(\tL8+10\n*1\n*L8+\t2\n*\tL6\n*\t10\n)*\r\n7\r\nchance10 N4\t-else:forbidden" 89
    ∷ row "sitem\r\n=0n=7\nA=\n2 W=1" 1000000
    ∷ row "\nsite m=\t0n=10\r\nA=\r\n0 W=7reward\t2\t=else:(1\r\n*0\r\n*0\n)\t*\r\n10 -2" 1000000
    ∷ row "sitem\t=\r\n7\nn=2A=\n2 W=7next\t1\nL4\t=\telse:7\t*\r\nL2\t*\r\n0" 1000000
    ∷ row "\tsite\r\nm=2n=1\nA=\r\n2 W=2" 1000000
    ∷ row "\nsite\r\nm\n=7\r\nn=7A=7 W=0chance1N2=\nelse: ( 7*7*7\n)*\tL2*\t(2)\t-10* 2 + 0*1*0\r\n+1*10*7\t)" 83
    ∷ row " sitem=\t7\r\nn=2 A=10 W=2\nname7 \"\"\"0~  (\"\"\"\"aa\"\"a~(\"\"(\"\r\n" 1000000
    ∷ row "\tsite\r\nm=0n=2A=7 W=10chance2N2= else\n:L4\n" 1000000
    ∷ row " site\r\nm\r\n=\t2\r\nn=2A=\n0 W=0\tend=\telse\r\n:\n-7+1\t* (\r\n-10)\t* 7\n+0\n*L7\n*(\r\n2+\t7\n*7*0+\r\n7\n)\t" 1000000
    ∷ row "\tsite\tm=\r\n2n=10\nA=\n7 W=10\tchance7\tN4= else:forbidden\r\n" 1000000
    ∷ row "\nsitem\r\n=2\nn=10A=1 W=1 chance\t10 N1\r\n=" 38
    ∷ row "\r\nsitem=\t0 n=2 A=7 W=0\t" 1000000
    ∷ row "\nsitem\n=\r\n10\tn=10\nA=2  W=1\nname\r\n1\"\"" 1000000
    ∷ row "sitem=\n7\r\nn=1A=0 W=2\tchance2\nN2 =\nelse:\nforbidden " 1000000
    ∷ row "\r\nsit m\t=1\nn=0\nA=7 W=1\t" 5
    ∷ row "\r\nsitem=0\r\nn=2\r\nA=\n7" 20
    ∷ row " site\r\nm= 7n=" 13
    ∷ row " site\r\nm\n=1\r\nn=1A=\n2 W=1\r\nend\r\n=\r\nelse: 2 -\r\n0 -L5end=else :(\t-1+\r\n10\t*0+\t10)*(-0-\r\n1\t*\r\n1\t*\rf\n0)\t" 93
    ∷ []

agree_200 : T (agree texts_200)
unfolding texts_200 scanning
agree_200 = tt

texts_220 : List Row
texts_220 =
    row "site\tm\r\n= 7\tn=0\r\nA=7 W=0 chance7\tN4= else :\r\n-(\t7 *L4 *1+ 7)\t" 1000000
    ∷ row " site\tm=0 n=7\r\nA=\n0 W=2name 7 \" \"\"0(( ~\"\"(a~a~0a~\"\nname2\n\"\"\"Z ( a\"\" \"\"~ \"\"a\"\"0\"\t" 1000000
    ∷ row " sitem\r\n=1 n=10A=10 W=7\r\nchance\r\n10N3b= else\r\n:\nforbiddenname0\n\"\"\"\"\n" 37
    ∷ row "\nsite m\t=2n=2A=\n0 W=2end=ele\t:(0-\t10 *L8 *2)" 27
    ∷ row "\tsite m =\n2\r\nn=10 A=\r\n1 W=10 chance\n2 N4\t=\telse:\n-L8 *\n7\n" 1000000
    ∷ row "site m\r\n=\t0n=10\nA=10 W=10 chance\n0 N4=else:\r\nforbidden next0\nL1=else:\r\n10\n-\nL1-(\r\n7* 0-\r\n10 *\n1 *\n1\nm1*\t1*\t7\t)\n*\n7 " 100
    ∷ row "sitem=\n7\nn=1\r\nA=~ 1 W=10\t" 16
    ∷ row "sitem\r\n=\t10\r\nn=1\nA=0 W=7\t" 1000000
    ∷ row "\r\nsite\r\nm\t=10 n=1A=\n2 W=0\nname 2 \"aZa( ~(~Z00((a(a \" " 50
    ∷ row "sitem\t=\t10\nn=7A= 0 W=1name\r\n7\"0a\"\t" 1000000
    ∷ row "sitem\t=\t1n=7A=\r10 W=7\t" 1000000
    ∷ row " site\nm=10 n=10 A=10 W=7" 1000000
    ∷ row "sitem=\t10\nn=2A=\n7 W=0reward1= elseh\n:\r\nL6 *2 *1\n" 34
    ∷ row "site\tm=0n=0\tA= 0 W=1\r\nreward 0=\n!!(C2\r\n):10*(-10*7 -1 *7)*L5\t;\telse:7 *(2*0*7\r\n-2\t+\n10)" 1000000
    ∷ row "\tsitem=\n1 n=7 A=\r\n1" 19
    ∷ row "\nsitem=\t0 n=2\r\nA=\n1 W=1\r\nreward\r\n0\r\n=else:\tL1\n+\n2\t*10\t*L4-\tL1 " 1000000
    ∷ row " sitem=2\nn=7\nA=1 W=2next\n0L6=!7\n>=-(2\r\n) -\t(\r\n1\n+10 -\t0 *\n7 *\n0)*( 1\t-\n10-7\t)*2\n:2\r\n*\n(7\t*10) ;else\r\n: 1\n*L4" 1000000
    ∷ row "sitex=7" 4
    ∷ row " sitm =10n=2\nA=\n1 W=10next\r\n7 L6\r\n=N1 :L4\t*\t(\n2)\n+\t7*L2*7- 0\t;\telse :\t2\t*L2\t+2\t*\n10\t*&L6\nname2\"\"\"~a~(a~Z(aZa0 (0~\"\r\n" 4
    ∷ row " sitem\n=\r\n1\nn=1\tA=\t10 W=" 24
    ∷ []

agree_220 : T (agree texts_220)
unfolding texts_220 scanning
agree_220 = tt

texts_240 : List Row
texts_240 =
    row "\tsite\tm=N\n0n=1 A=10 W=2\n" 8
    ∷ row "\tsitem=2 n=2A" 13
    ∷ row "site\r\nm\n=2 n=1\nA=\t7 W=2=\nreward\n10\t= else:(\r\n10\n+\r\n1*2*1\r\n)\n*\t0\n*\t(\n2*\t10*\t1\t+\r\n0 )\tname2\n\"Z0a \"\"Z(0Za~ Z \"\"\"\"Z\"\n" 23
    ∷ row "sitem=10\tn=0 A= 2 W=1next1 L4 =\t" 32
    ∷ row "\nsite m\n=7n=2\r\nA=\r\n7 W=1&next0L5= else:\n-L7\n" 24
    ∷ row "\r\nsitem=10n=2A:=7 W=10\t" 14
    ∷ row " site\tm\n=\n2n=7\r2A= 1 W=7" 15
    ∷ row "sitem\r\n=\r&\n2 n=2\tA= 2 W=7\r\nnam\"e\n1\"\"\"a    Z( ~00Z0a~\"\"\"" 9
    ∷ row "site\tm=7 n=~A= 10 W=1end=else\t:\n7" 11
    ∷ row " siem=1 n=10\nA=2 W=7next\n1L8= !!(\t-1* L8* 0-\t0 )\r\n>= 7 -\t(-7\t-\r\n7 -7\n)\r\n|\t1\r\n>=\r\n-L7:L8\n+(\nL6\t)\t;else\n:\n-L4" 3
    ∷ row "site m\n= 7n=2\nA=\r\n10 W=1name" 28
    ∷ row "sitem\n=2n=7A=\r\n1 W=7\nreward\n1= else\t:10-L1 *\n10name10\"0a~ 0 0~0 \"\"\"\" ( \"" 1000000
    ∷ row "\r\nsite\n-= 2\tn=2\tA=\r\n1 W=1\treward 10=\nelse: forbidden" 7
    ∷ row "sitecm\n=0\tn=10\tA=\t0 W=10 name1\r\n\"~~Z(a~a( Z   Za\"" 4
    ∷ row "\nsit" 4
    ∷ row " sitem=\t2\nn=10\tA=\n7 W=2\n" 1000000
    ∷ row "\nsite\tm\r\n=10\tn=1A=1 W=7" 1000000
    ∷ row "\tsitem= 10\nn=1A=10 W=2\tnext\n2 L7=L7\n*2\n*(2-\r\n10*0\r\n)>=L2 &C3\n: L8\t;\r\nelse\n:0reward0=else\n:\r\nforbidden " 1000000
    ∷ row "\tsitem =2\r\nn=0A=10 W=7end=else:\t-(\r\nL8\r\n+ L5)\n*\r\n01+10*( -2 + 10 *7 *7\r\n+ \t7)*7\n-\n(\nL4)\t" 1000000
    ∷ row "site\tm=\r\n7n92A=\r\n7 W=10\tname1\r\n\"a Z0\"\"0 0Z(\"\"0(Zaa\"\r\n" 11
    ∷ []

agree_240 : T (agree texts_240)
unfolding texts_240 scanning
agree_240 = tt
