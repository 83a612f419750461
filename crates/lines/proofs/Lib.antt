mod GrammarLines
