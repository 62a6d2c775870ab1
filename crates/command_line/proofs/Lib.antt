mod OnWords
