-- Worked rows: texts from outside, as they are written.
use Rattle.std.proofs.Common.{◌≡◌, codes, refl, [], ◌∷◌, ◌++◌}
use Rattle.redl_html.specs.Escaping.{escaped, replacement}

markup : escaped (codes "<script>alert('a' && \"b\")</script>") ≡ codes "&lt;script&gt;alert(&#39;a&#39; &amp;&amp; &quot;b&quot;)&lt;/script&gt;"
markup = refl

reference : escaped (codes "&lt;") ≡ codes "&amp;lt;"
reference = refl

controls : escaped (codes "a" ++ (0 ∷ 27 ∷ 9 ∷ 127 ∷ [])) ≡ codes "a" ++ (replacement ++ (replacement ++ (9 ∷ replacement)))
controls = refl

-- U+0085 in a name stays, so that the page's name is that of the journal
high_controls : escaped (0xC2 ∷ 0x85 ∷ 0xC2 ∷ 0xA0 ∷ 0xC3 ∷ 0x84 ∷ []) ≡ 0xC2 ∷ 0x85 ∷ 0xC2 ∷ 0xA0 ∷ 0xC3 ∷ 0x84 ∷ []
high_controls = refl

carriage_return : escaped (codes "a\r\nb") ≡ codes "a&#13;\nb"
carriage_return = refl
